-- Runs of writings: what a loop keeps that does one, and how long its bytes are.
-- Assumes nothing.
use Prim.Native.Nat.{ℕ, zero, suc, ◌+◌, ◌-◌, ◌*◌, ◌<◌, ◌≤◌}
use mathlib.Core.Path.{◌≡◌, refl, sym, ◌∙◌, ap}
use mathlib.Core.List.{List, ◌++◌}
use native.Mathlib.Nat.{suc-mul}
use native.Mathlib.Omega.{arith}
use lib.ListN.{length, length-append}
use lib.Seq.{sets, length-sets}
use Rattle.number.specs.Run.{each}
use Rattle.number.proofs.Stores.{sets_append}

-- ---- a loop that writes each of N things: to store what is left from here gives what the whole run gives

-- o₀ is the buffer at the start and `at` the first place; i things are written, up to `place`, and the buffer is o
pub record Putting (f : ℕ → List ℕ) (N : ℕ) (o₀ : List ℕ) (at : ℕ) (i : ℕ) (o : List ℕ) (place : ℕ) : Type 0 where
  pub most : i ≤ N
  pub same : sets o place (each f (N - i) i) ≡ sets o₀ at (each f N 0)
  pub total : place + length (each f (N - i) i) ≡ at + length (each f N 0)
  pub long : length o ≡ length o₀

module _ {f : ℕ → List ℕ} {N : ℕ} {o₀ : List ℕ} {at : ℕ} where
  pub put_none : Putting f N o₀ at 0 o₀ at
  put_none = let e : N - 0 ≡ N = omega arith in record { most = omega arith; same = rw e; total = rw e; long = refl }

  module _ {i place : ℕ} {o : List ℕ} (k : Putting f N o₀ at i o place) where
    left : i < N → each f (N - i) i ≡ f i ++ each f (N - (i + 1)) (i + 1)
    unfolding each
    left h = let e : N - i ≡ suc (N - (i + 1)) = omega arith in rw e

    lengths : i < N → length (each f (N - i) i) ≡ length (f i) + length (each f (N - (i + 1)) (i + 1))
    lengths h = ap length (left h) ∙ length-append (f i) (each f (N - (i + 1)) (i + 1))

    -- there is room for the next
    pub put_room : i < N → at + length (each f N 0) ≤ length o₀ → place + length (f i) ≤ length o
    put_room h r = omega (arith, k.total, k.long, lengths h)

    -- the next, as a call of a writer leaves it
    pub put_step : {bs o' : List ℕ} {place' : ℕ} → i < N → f i ≡ bs → o' ≡ sets o place bs → place' ≡ place + length bs
        → Putting f N o₀ at (i + 1) o' place'
    put_step h e p q =
        rw (p, q, ← e)
        (record {
          most = omega arith;
          same = sym (sets_append (f i) (each f (N - (i + 1)) (i + 1)) o place) ∙ ap (λ (r : List ℕ). sets o place r) (sym (left h)) ∙ k.same;
          total = omega (arith, k.total, lengths h);
          long = length-sets o place (f i) ∙ k.long;
        })

    pub put_over : N ≤ i → o ≡ sets o₀ at (each f N 0)
    unfolding each
    put_over h = let e : N - i ≡ 0 = omega arith in rw e at k.same

    pub put_end : N ≤ i → place ≡ at + length (each f N 0)
    unfolding each
    put_end h = let e : N - i ≡ 0 = omega arith in omega (arith, rw e at k.total)

-- ---- n things of k bytes at most
module _ (f : ℕ → List ℕ) (N k : ℕ) (most : (i : ℕ) → i < N → length (f i) ≤ k) where
  pub each_most : (n i : ℕ) → i + n ≤ N → length (each f n i) ≤ n * k
  unfolding each
  each_most zero i h = omega arith
  each_most (suc n) i h =
      omega (arith, length-append (f i) (each f n (i + 1)), most i (omega arith), each_most n (i + 1) (omega arith), suc-mul n k)
