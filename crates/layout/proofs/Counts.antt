-- Counts of bytes: what a loop keeps that adds up the lengths of a run of writings, and how long a counted run is at most.
-- Assumes nothing.
use Prim.Native.Nat.{ℕ, suc, ◌+◌, ◌-◌, ◌*◌, ◌<◌, ◌≤◌}
use mathlib.Core.Path.{◌≡◌}
use mathlib.Core.List.{List, ◌++◌}
use native.Mathlib.Nat.{mul-le-mul_right}
use native.Mathlib.Omega.{arith}
use lib.ListN.{length, length-append, take, length-take}
use Rattle.number.specs.Run.{each}
use Rattle.number.proofs.Puts.{each_most}

-- ---- a loop that counts each of N things: with what is left from here it is what the whole run has

-- at was counted before the first; i things are counted, and they come to n
pub record Counting (f : ℕ → List ℕ) (N at i n : ℕ) : Type 0 where
  pub most : i ≤ N
  pub total : n + length (each f (N - i) i) ≡ at + length (each f N 0)

module _ {f : ℕ → List ℕ} {N : ℕ} {at : ℕ} where
  pub count_none : Counting f N at 0 at
  count_none = let e : N - 0 ≡ N = omega arith in record { most = omega arith; total = rw e }

  module _ {i n : ℕ} (k : Counting f N at i n) where
    lengths : i < N → length (each f (N - i) i) ≡ length (f i) + length (each f (N - (i + 1)) (i + 1))
    unfolding each
    lengths h = let e : N - i ≡ suc (N - (i + 1)) = omega arith in rw e (length-append (f i) (each f (N - (i + 1)) (i + 1)))

    -- no sum on the way is above the whole
    pub count_room : (a : List ℕ) {m most : ℕ} → i < N → at ≡ length a → m ≡ length (f i) → length (a ++ each f N 0) ≤ most → n + m ≤ most
    count_room a h e p l = omega (arith, k.total, lengths h, length-append a (each f N 0))

    pub count_step : {m : ℕ} → i < N → m ≡ length (f i) → Counting f N at (i + 1) (n + m)
    count_step h e = record { most = omega arith; total = omega (arith, k.total, lengths h) }

    pub count-over : (a : List ℕ) → N ≤ i → at ≡ length a → n ≡ length (a ++ each f N 0)
    unfolding each
    count-over a h p = let e : N - i ≡ 0 = omega arith in omega (arith, rw e at k.total, length-append a (each f N 0))

-- ---- a number and N things after it, of k bytes each at most
pub counted_most : (a : List ℕ) (f : ℕ → List ℕ) (N M h k : ℕ) → length a ≤ h → N ≤ M → ((i : ℕ) → i < N → length (f i) ≤ k)
    → length (a ++ each f N 0) ≤ h + M * k
counted_most a f N M h k l m most =
    omega (arith, length-append a (each f N 0), each_most f N k most N 0 (omega arith), mul-le-mul_right k m)

-- ---- a loop over the front of an array: the things in use
module _ {A : Type 0} {n i : ℕ} (xs : List A) where
  pub front_in : i < length (take n xs) → i < n
  front_in h = omega (arith, length-take n xs)

  pub front-over : n ≤ length xs → length (take n xs) ≤ i → n ≤ i
  front-over l h = omega (arith, length-take n xs)
