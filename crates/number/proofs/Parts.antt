-- Bytes that stand at a place of a list, and the part of a list from one place up to another.
-- Assumes nothing.
use Prim.Native.Nat.{ℕ, ◌+◌, ◌-◌, ◌<◌, ◌≤◌}
use mathlib.Core.Path.{◌≡◌, refl, sym, ◌∙◌, ap}
use mathlib.Core.List.{List, [], ◌++◌, append_assoc}
use native.Mathlib.Omega.{arith}
use lib.ListN.{length, get_or, drop, length-append, length-drop, take-append-drop, get_or-append}
use lib.Seq.{drop-drop, drop-append_seam, get_or-drop, take_at, take-add}
use Rattle.number.specs.Number.{byte, part}

-- bs stand at `at` of s
pub record Stands (s : List ℕ) (at : ℕ) (bs : List ℕ) : Type 0 where
  pub rest : List ℕ
  pub here : drop at s ≡ bs ++ rest

-- two runs of bytes, one after the other
module _ {s : List ℕ} {at : ℕ} (a b : List ℕ) (w : Stands s at (a ++ b)) where
  pub stands_first : Stands s at a
  stands_first = record { rest = b ++ w.rest; here = w.here ∙ append_assoc a b w.rest }

  pub stands_second : Stands s (at + length a) b
  stands_second =
      record {
        rest = w.rest;
        here =
            sym (drop-drop (length a) at s)
            ∙ ap (λ (l : List ℕ). drop (length a) l) (w.here ∙ append_assoc a b w.rest)
            ∙ drop-append_seam a (b ++ w.rest);
      }

module _ {s : List ℕ} {at : ℕ} {bs : List ℕ} (w : Stands s at bs) where
  -- each of them is a byte of s
  pub stands_byte : (n : ℕ) → n < length bs → byte s at n ≡ get_or bs n 0
  stands_byte n h =
      sym (get_or-drop at s n 0) ∙ ap (λ (l : List ℕ). get_or l n 0) w.here ∙ get_or-append bs w.rest 0 n h

  pub stands_inside : (n : ℕ) → n < length bs → at + n < length s
  stands_inside n h = omega (arith, length-drop at s, ap length w.here, length-append bs w.rest)

  -- they are the part of s that ends past them
  pub stands_part : part s at (at + length bs) ≡ bs
  stands_part =
      let e : at + length bs - at ≡ length bs = omega arith in
      rw (e, w.here) (take_at bs w.rest (length bs) refl)

-- a part stands where it starts
pub part_stands : (s : List ℕ) (at e : ℕ) → Stands s at (part s at e)
part_stands s at e = record { rest = drop (e - at) (drop at s); here = sym (take-append-drop (e - at) (drop at s)) }

pub part_none : (s : List ℕ) (at : ℕ) → part s at at ≡ []
part_none s at = let e : at - at ≡ 0 = omega arith in rw e

-- two parts, the second from where the first ends
pub part_join : (s : List ℕ) (at mid e : ℕ) → at ≤ mid → mid ≤ e → part s at mid ++ part s mid e ≡ part s at e
part_join s at mid e h l =
    let a : at + (mid - at) ≡ mid = omega arith in
    let b : mid - at + (e - mid) ≡ e - at = omega arith in
    sym (rw (← b) (take-add (mid - at) (e - mid) (drop at s) ∙ rw (drop-drop (mid - at) at s, a)))
