-- Both round trips of a number: what was written is read again, and what was read is what would be written.
-- Assumes nothing.
use Prim.Native.Nat.{ℕ, zero, suc, ◌+◌, ◌*◌, ◌-◌, ◌%◌, ◌/◌, ◌^◌, ◌<◌, ◌≤◌}
use mathlib.Core.Path.{◌≡◌, refl, ◌∙◌, ap, ap₂}
use mathlib.Core.List.{List, [], ◌∷◌}
use native.Mathlib.Nat.{pow-succ', mod-eq_of_lt}
use native.Mathlib.Numerals.{add-one}
use native.Mathlib.Omega.{arith}
use borrow.Author.Tests.{ltb-true, ltb-false}
use lib.Dec.{ltb}
use lib.ListN.{length, get_or, take, drop, length-take, length-drop}
use lib.Seq.{drop-cons, sets}
use Rattle.sets.proofs.Tests.{by_test}
use Rattle.number.specs.Number.{byte, value_of, groups_of, num_at, num_bytes, part}
use Rattle.number.specs.Number.{Value}
use Rattle.number.proofs.Parts.{Stands, stands_byte, stands_inside, stands_second, part_stands}
use Rattle.number.proofs.Stores.{sets_stands}
use Rattle.number.proofs.Values.{byte_next, value_low, value_first, value_pos, value_one, value_none}
use Rattle.number.proofs.Numbers.{Number, number_is, num_found, num_next}
use Rattle.number.proofs.Bytes.{of_more, of_last, groups_length}

-- ---- the bytes of x, where they stand, are a number whose value is x
record Written (m x : ℕ) (s : List ℕ) (at : ℕ) : Type 0 where
  n : ℕ
  number : Number m s at n
  count : length (groups_of m x) ≡ n + 1
  value : value_of s at (suc n) ≡ x

-- of a single byte
one : (m x : ℕ) (s : List ℕ) (at : ℕ) → x < 128 → (0 ≡ m → x ≤ 1) → Stands s at (groups_of m x) → Written m x s at
unfolding value_of
one m x s at l z w =
    let e = of_last m x l in
    let v : Stands s at (x ∷ []) = rw e at w in
    let b : byte s at 0 ≡ x = stands_byte v 0 (omega arith) in
    record {
      n = 0;
      number =
          record {
            most = omega arith;
            more = λ k h. absurd (omega arith);
            low = omega arith;
            tenth = λ y. omega (arith, z y);
            short = λ y. refl;
            inside = stands_inside v 0 (omega arith);
          };
      count = rw e (omega arith);
      value = omega arith;
    }

-- of one more
next : (m x : ℕ) (s : List ℕ) (at : ℕ) → 128 ≤ x → Stands s at (groups_of (suc m) x) → Written m (x / 128) s (at + 1) → Written (suc m) x s at
next m x s at l w f =
    let e = of_more m x l in
    let v : Stands s at ((x % 128 + 128) ∷ groups_of m (x / 128)) = rw e at w in
    let b : byte s at 0 ≡ x % 128 + 128 = stands_byte v 0 (omega arith) in
    let g = f.number in
    let y = byte_next s at f.n in
    record {
      n = suc f.n;
      number =
          record {
            most = omega (arith, g.most);
            more = each (omega arith);
            low = omega (arith, g.low);
            tenth = λ z. omega (arith, g.tenth (omega arith));
            short = λ z. let q = g.short (omega arith) in absurd (omega (arith, f.value, value_none s (at + 1) f.n q (omega arith)));
            inside = omega (arith, g.inside);
          };
      count = rw e (omega (arith, f.count));
      value = value_first s at (suc f.n) ∙ omega (arith, f.value);
    }
  where
    each : 128 ≤ byte s at 0 → (k : ℕ) → k < suc f.n → 128 ≤ byte s at k
    each b zero h = b
    each b (suc k) h = omega (arith, byte_next s at k, f.number.more k (omega arith))

written : (m x : ℕ) (s : List ℕ) (at : ℕ) → x < 2 * 128 ^ m → Stands s at (groups_of m x) → Written m x s at
written zero x s at h w = one zero x s at (omega arith) (λ z. omega arith) w
written (suc m) x s at h w =
    by_test (ltb x 128) (λ t. one (suc m) x s at (ltb-true x 128 t) (λ z. absurd (omega arith)) w)
    (λ t.
    let l : 128 ≤ x = ltb-false x 128 t in
    next m x s at l w
    (written m (x / 128) s (at + 1) (omega (arith, pow-succ' 128 m))
    (stands_second ((x % 128 + 128) ∷ []) (groups_of m (x / 128)) (rw (of_more m x l) at w))))

-- The first round trip: a number's bytes, wherever they stand, are read as that number, with the place past them.
pub read_written : {s : List ℕ} {at : ℕ} (x : ℕ) → x < 2 ^ 64 → Stands s at (num_bytes x) → num_at s at ≡ Value x (at + length (num_bytes x))
unfolding num_bytes
read_written {s} {at} x h w =
    let f = written 9 x s at h w in
    number_is f.number ∙ ap₂ Value f.value (omega (arith, f.count))

-- and so they are in a buffer that they were stored in
pub read_stored : (o : List ℕ) (at x : ℕ) → x < 2 ^ 64 → at + length (num_bytes x) ≤ length o
    → num_at (sets o at (num_bytes x)) at ≡ Value x (at + length (num_bytes x))
read_stored o at x h l = read_written x h (sets_stands o at (num_bytes x) l)

-- ---- a number's own bytes are those of its value

first_byte : (s : List ℕ) (at : ℕ) → at < length s → drop at s ≡ byte s at 0 ∷ drop (at + 1) s
first_byte s at h = let e : at + 0 ≡ at = omega arith in rw (e, add-one at) (drop-cons s at 0 h)

module _ (s : List ℕ) (small : (k : ℕ) → get_or s k 0 < 256) where
  bytes_of : (m n at : ℕ) → Number m s at n → groups_of m (value_of s at (suc n)) ≡ take (suc n) (drop at s)
  bytes_of m zero at w =
      let v : value_of s at 1 ≡ byte s at 0 = value_one s at ∙ mod-eq_of_lt w.low in
      rw (v, first_byte s at (omega (arith, w.inside))) (of_last m (byte s at 0) w.low)
  bytes_of zero (suc n) at w = absurd (omega (arith, w.most))
  bytes_of (suc m) (suc n) at w =
      let b : ℕ = byte s at 0 in
      let v : ℕ = value_of s (at + 1) (suc n) in
      let x : ℕ = value_of s at (suc (suc n)) in
      let y = byte_next s at n in
      let top : 128 ≤ b = w.more 0 (omega arith) in
      let less : b < 256 = small (at + 0) in
      let e : x ≡ b % 128 + 128 * v = value_first s at (suc n) in
      -- the last group is not 0, so there is more than the first
      let pos : 0 < v = value_pos s (at + 1) n (omega (arith, w.low)) (λ z. omega (arith, w.short (omega arith))) in
      let d : x / 128 ≡ v = omega arith in
      let r : x % 128 + 128 ≡ b = omega arith in
      of_more m x (omega arith) ∙ rw (d, r, first_byte s at (omega (arith, w.inside)))
      (ap (λ (l : List ℕ). b ∷ l) (bytes_of m n (at + 1)
      (record {
        most = omega (arith, w.most);
        more = λ k h. omega (arith, byte_next s at k, w.more (suc k) (omega arith));
        low = omega (arith, w.low);
        tenth = λ z. omega (arith, w.tenth (omega arith));
        short = λ z. absurd (omega (arith, w.short (omega arith)));
        inside = omega (arith, w.inside);
      })))

  -- The second round trip: where a number is read, its bytes are those that would be written, and they end where it does.
  module _ (at : ℕ) {x e : ℕ} (q : num_at s at ≡ Value x e) where
    pub written_read : num_bytes x ≡ part s at e
    unfolding num_bytes
    written_read =
        let f = num_found s at q in
        let d : e - at ≡ suc f.n = omega (arith, f.place) in
        rw (f.value, d) (bytes_of 9 f.n at f.number)

    pub written_stands : Stands s at (num_bytes x)
    written_stands = rw written_read (part_stands s at e)

    pub written_place : e ≡ at + length (num_bytes x)
    written_place =
        let r = num_next s at q in
        omega (arith, ap length written_read, length-take (e - at) (drop at s), length-drop at s, r)

-- Shortest form: groups of the same value are no fewer than the number's own bytes.
pub shortest : (s : List ℕ) (at n : ℕ) → length (num_bytes (value_of s at (suc n))) ≤ suc n
unfolding num_bytes
shortest s at n = omega (arith, groups_length 9 n (value_of s at (suc n)) (λ p. value_low s at (suc n)))
