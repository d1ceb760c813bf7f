-- The bytes of a number, and the value of its groups.
-- Assumes nothing.
use Prim.Native.Nat.{ℕ, zero, suc, ◌+◌, ◌*◌, ◌%◌, ◌^◌, ◌<◌, ◌≤◌}
use mathlib.Core.Path.{◌≡◌, ap}
use mathlib.Core.List.{List}
use native.Mathlib.Nat.{pow-succ', mul-le-mul_right, pow-le-pow_right, mod-eq_of_lt, one-le-pow, le-mul_of_pos_right}
use native.Mathlib.Omega.{arith}
use borrow.Author.Tests.{ltb-true, ltb-false}
use lib.Dec.{ltb}
use lib.ListN.{length, get_or, get_or-eq_default}
use Rattle.sets.proofs.Tests.{by_test}
use Rattle.number.specs.Number.{byte, value_of}

-- a byte that is not 0 is one of the input
pub byte_inside : (s : List ℕ) (i : ℕ) → 0 < get_or s i 0 → i < length s
byte_inside s i h =
    by_test (ltb i (length s)) (λ t. ltb-true i (length s) t)
    (λ t. absurd (omega (arith, get_or-eq_default s 0 {n = i} (ltb-false i (length s) t))))

pub byte_next : (s : List ℕ) (at n : ℕ) → byte s at (suc n) ≡ byte s (at + 1) n
byte_next s at n = let e : at + suc n ≡ at + 1 + n = omega arith in rw e

-- ---- the value of the groups

-- a group is at most 127
pub group_most : (b n : ℕ) → b % 128 * 128 ^ n ≤ 127 * 128 ^ n
group_most b n = mul-le-mul_right (128 ^ n) (omega arith)

-- what the groups to the ninth count fits 63 bits
pub scale_most : (n : ℕ) → n < 9 → 128 ^ suc n ≤ 2 ^ 63
scale_most n h = pow-le-pow_right {n = 128} (omega arith) {i = suc n} {j = 9} (omega arith)

-- n groups are below 128 to the n
pub value_low : (s : List ℕ) (at n : ℕ) → value_of s at n < 128 ^ n
unfolding value_of
value_low s at zero = omega arith
value_low s at (suc n) =
    omega (arith, value_low s at n, pow-succ' 128 n, group_most (byte s at n) n)

-- the lowest group, and the others
pub value_first : (s : List ℕ) (at n : ℕ) → value_of s at (suc n) ≡ byte s at 0 % 128 + 128 * value_of s (at + 1) n
unfolding value_of
value_first s at zero = omega arith
value_first s at (suc n) =
    omega (arith, value_first s at n, ap (λ (b : ℕ). b % 128 * 128 ^ suc n) (byte_next s at n), ap (λ (p : ℕ). byte s (at + 1) n % 128 * p) (pow-succ' 128 n))

-- the value of one byte
pub value_one : (s : List ℕ) (at : ℕ) → value_of s at 1 ≡ byte s at 0 % 128
unfolding value_of
value_one s at = omega arith

-- of one that is 0, and of a last one that is not
pub value_none : (s : List ℕ) (at n : ℕ) → n ≡ 0 → byte s at n ≡ 0 → value_of s at (suc n) ≡ 0
value_none s at zero e b = omega (arith, value_one s at)
value_none s at (suc n) e b = absurd (omega arith)

pub value_pos : (s : List ℕ) (at n : ℕ) → byte s at n < 128 → (byte s at n ≡ 0 → ⊥) → 0 < value_of s at (suc n)
unfolding value_of
value_pos s at n l z = omega (arith, le-mul_of_pos_right (byte s at n % 128) (one-le-pow n 128 (omega arith)), mod-eq_of_lt l, z)
