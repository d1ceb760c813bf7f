-- Stores of bytes in a list: one run after the other, where they stand, what stays, and stores in a part that is lent on.
-- Assumes nothing.
use Prim.Native.Nat.{ℕ, suc, ◌+◌, ◌-◌, ◌<◌, ◌≤◌}
use mathlib.Core.Path.{◌≡◌, refl, ◌∙◌}
use mathlib.Core.List.{List, [], ◌∷◌, ◌++◌, append_assoc, append-nil}
use native.Mathlib.Nat.{add-zero, suc-add, add-suc}
use native.Mathlib.Omega.{arith}
use lib.ListN.{length, get_or, set, take, drop, length-drop, take-append-drop, drop_of_length-le}
use lib.Seq.{sets, sets-eq, length-take-le, drop_at, take_all, drop-set-add, take-set-le, get_or-set_other}
use Rattle.number.proofs.Parts.{Stands}

-- two runs of stores, one after the other
pub sets_append : (a b o : List ℕ) (at : ℕ) → sets o at (a ++ b) ≡ sets (sets o at a) (at + length a) b
sets_append [] b o at = rw (add-zero at)
sets_append (x ∷ a) b o at = sets_append a b (set o at x) (suc at) ∙ rw (add-suc at (length a), suc-add at (length a))

-- what was stored stands there
pub sets_stands : (o : List ℕ) (at : ℕ) (bs : List ℕ) → at + length bs ≤ length o → Stands (sets o at bs) at bs
sets_stands o at bs h =
    record {
      rest = drop (at + length bs) o;
      here = rw (sets-eq bs o at h, append_assoc) (drop_at (take at o) (bs ++ drop (at + length bs) o) at (length-take-le at o (omega arith)));
    }

-- all other bytes stay
pub sets_before : (bs o : List ℕ) (at k : ℕ) → k < at → get_or (sets o at bs) k 0 ≡ get_or o k 0
sets_before [] o at k h = refl
sets_before (b ∷ bs) o at k h = sets_before bs (set o at b) (suc at) k (omega arith) ∙ get_or-set_other o at k b 0 (omega arith)

pub sets_after : (bs o : List ℕ) (at k : ℕ) → at + length bs ≤ k → get_or (sets o at bs) k 0 ≡ get_or o k 0
sets_after [] o at k h = refl
sets_after (b ∷ bs) o at k h = sets_after bs (set o at b) (suc at) k (omega arith) ∙ get_or-set_other o at k b 0 (omega arith)

-- stores in the rest of a list, from its middle
rest_at : (a : ℕ) (bs o : List ℕ) (j : ℕ) → take a o ++ sets (drop a o) j bs ≡ sets o (a + j) bs
rest_at a [] o j = take-append-drop a o
rest_at a (b ∷ bs) o j =
    rw (← drop-set-add a o j b, ← take-set-le a o (a + j) b (omega arith)) (rest_at a bs (set o (a + j) b) (suc j) ∙ rw (add-suc a j))

-- the whole, after the rest of it was lent from `at` on and stored in from its start
pub rest_sets : (o : List ℕ) (at : ℕ) (bs : List ℕ) {n : ℕ} → n ≡ length o - at
    → take at o ++ (sets (take n (drop at o)) 0 bs ++ drop n (drop at o)) ≡ sets o at bs
rest_sets o at bs {n} e =
    let l : length (drop at o) ≤ n = rw (length-drop at o, e) (omega arith) in
    let z : at + 0 ≡ at = omega arith in
    rw (take_all n (drop at o) l, drop_of_length-le (drop at o) l, append-nil (sets (drop at o) 0 bs)) (rest_at at bs o 0 ∙ rw z)
