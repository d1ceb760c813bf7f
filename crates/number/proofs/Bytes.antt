-- The bytes of a number: how many, and what the loops keep that count and write them.
-- Assumes nothing.
use Prim.Native.Nat.{ℕ, zero, suc, ◌+◌, ◌*◌, ◌%◌, ◌/◌, ◌^◌, ◌<◌, ◌≤◌}
use mathlib.Core.Path.{◌≡◌, refl, sym, ◌∙◌, ap}
use mathlib.Core.List.{List, [], ◌∷◌}
use native.Mathlib.Nat.{pow-succ'}
use native.Mathlib.Numerals.{add-one}
use native.Mathlib.Omega.{arith}
use borrow.Author.Tests.{lt-ltb, le-ltb, ltb-true, ltb-false}
use lib.Dec.{ltb}
use lib.ListN.{length, set, length-set}
use lib.Pow.{pow-add}
use lib.Seq.{sets}
use Rattle.sets.proofs.Tests.{by_test}
use Rattle.number.specs.Number.{groups_of, num_bytes}

-- ---- a number of more than one group, and one of a single group

pub of_more : (n x : ℕ) → 128 ≤ x → groups_of (suc n) x ≡ (x % 128 + 128) ∷ groups_of n (x / 128)
unfolding groups_of
of_more n x l = rw (groups_of, le-ltb x 128 l)

pub of_last : (n x : ℕ) → x < 128 → groups_of n x ≡ x ∷ []
unfolding groups_of
of_last zero x l = refl
of_last (suc n) x l = rw (groups_of, lt-ltb x 128 l)

-- ---- how many bytes there are

-- k + 1 groups hold a number below 128 to the k + 1
pub groups_length : (n k x : ℕ) → (k < n → x < 128 ^ suc k) → length (groups_of n x) ≤ k + 1
unfolding groups_of
groups_length zero k x h = omega arith
groups_length (suc n) zero x h = rw (of_last (suc n) x (omega (arith, h (omega arith)))) (omega arith)
groups_length (suc n) (suc k) x h =
    by_test (ltb x 128) (λ t. rw (of_last (suc n) x (ltb-true x 128 t)) (omega arith))
    (λ t.
    let l : 128 ≤ x = ltb-false x 128 t in
    rw (of_more n x l) (omega (arith, groups_length n k (x / 128) (λ p. omega (arith, h (omega arith), pow-succ' 128 (suc k))))))

pub length_first : (n x : ℕ) → 1 ≤ length (groups_of n x)
unfolding groups_of
length_first zero x = omega arith
length_first (suc n) x =
    by_test (ltb x 128) (λ t. rw (of_last (suc n) x (ltb-true x 128 t)) (omega arith)) (λ t. rw (of_more n x (ltb-false x 128 t)) (omega arith))

-- 7 bits to a group
bits : (k : ℕ) → 2 ^ (7 * k) ≡ 128 ^ k
bits zero = refl
bits (suc k) =
    let e : 7 * suc k ≡ 7 + 7 * k = omega arith in
    rw e (pow-add 2 7 (7 * k) ∙ rw (bits k) (sym (pow-succ' 128 k)))

-- 10 bytes at most, and k bytes at most where 7 * k bits hold the number
module _ (x : ℕ) where
  pub bytes_most : length (num_bytes x) ≤ 10
  unfolding num_bytes
  bytes_most = groups_length 9 9 x (λ p. absurd (omega arith))

  pub bytes_below : (k : ℕ) → x < 2 ^ (7 * suc k) → length (num_bytes x) ≤ suc k
  unfolding num_bytes
  bytes_below k h = omega (arith, groups_length 9 k x (λ p. rw (bits (suc k)) at h))

-- ---- what is left of x's bytes, of which some stand from `at` to i: those of v
pub record Left (x at v i : ℕ) : Type 0 where
  pub n : ℕ
  pub small : v < 2 * 128 ^ n
  pub total : i + length (groups_of n v) ≡ at + length (num_bytes x)

pub left_start : (x at : ℕ) → x < 2 ^ 64 → Left x at x at
unfolding num_bytes
left_start x at h = record { n = 9; small = h; total = refl }

module _ {x at v i : ℕ} (k : Left x at v i) where
  -- the last byte
  pub left_last : v < 128 → i + 1 ≡ at + length (num_bytes x)
  left_last l = omega (arith, k.total, ap length (of_last k.n v l))

  -- a byte that is continued, and what is left after it
  pub left_more : 128 ≤ v → (m : Left x at (v / 128) (i + 1)) × (groups_of k.n v ≡ (v % 128 + 128) ∷ groups_of m.n (v / 128))
  left_more l = go k.n k.small k.total
    where
      go : (n : ℕ) → v < 2 * 128 ^ n → i + length (groups_of n v) ≡ at + length (num_bytes x)
          → (m : Left x at (v / 128) (i + 1)) × (groups_of n v ≡ (v % 128 + 128) ∷ groups_of m.n (v / 128))
      go zero s e = absurd (omega arith)
      go (suc n) s e =
          let b = of_more n v l in
          (record { n = n; small = omega (arith, pow-succ' 128 n); total = omega (arith, ap length b) }, b)

-- ---- what the writer's loop keeps: to store the bytes that are left from here gives what the whole run gives
pub record Writing (o₀ : List ℕ) (at x : ℕ) (o : List ℕ) (v i : ℕ) : Type 0 where
  pub left : Left x at v i
  pub same : sets o i (groups_of left.n v) ≡ sets o₀ at (num_bytes x)
  pub long : length o ≡ length o₀

pub write_start : (o : List ℕ) (at x : ℕ) → x < 2 ^ 64 → Writing o at x o x at
unfolding num_bytes left_start
write_start o at x h = record { left = left_start x at h; same = refl; long = refl }

module _ {o₀ : List ℕ} {at x : ℕ} {o : List ℕ} {v i : ℕ} (k : Writing o₀ at x o v i) where
  pub write_more : 128 ≤ v → Writing o₀ at x (set o i (v % 128 + 128)) (v / 128) (i + 1)
  write_more l =
      let m = left_more k.left l in
      record {
        left = m.0;
        same = rw (add-one i) (ap (λ (r : List ℕ). sets o i r) (sym m.1) ∙ k.same);
        long = length-set o i (v % 128 + 128) ∙ k.long;
      }

  pub write_last : v < 128 → set o i v ≡ sets o₀ at (num_bytes x)
  write_last l = ap (λ (r : List ℕ). sets o i r) (sym (of_last k.left.n v l)) ∙ k.same

  -- there is room for each byte
  pub write_room : at + length (num_bytes x) ≤ length o₀ → i < length o
  write_room h = omega (arith, k.left.total, k.long, length_first k.left.n v)
