-- What a run leaves that fills a list from the front: each place done is right, and those past it are as they were.
-- Assumes nothing.
use Prim.Native.Nat.{ℕ, zero, suc, ◌+◌, ◌<◌, ◌≤◌}
use mathlib.Core.Path.{◌≡◌, ◌∙◌}
use mathlib.Core.List.{List}
use native.Mathlib.Omega.{arith}
use borrow.Author.Tests.{ltb-true, ltb-false, eqb-true, eqb-false}
use lib.Dec.{ltb, eqb}
use lib.ListN.{length, get_or, set, replicate, length-set, length-replicate, get_or-replicate, get_or-eq_default}
use lib.Seq.{get_or-set_same, get_or-set_other}
use Rattle.sets.proofs.Tests.{by_test}
use Rattle.number.specs.Run.{Step, go, run}
use Rattle.number.proofs.Runs.{on_step_lem}

-- what each step keeps, the run keeps
module _ {A : Type 0} (f : ℕ → ℕ → A → Step A) (Holds : ℕ → A → Type 0) (N : ℕ)
    (keeps : (i at : ℕ) (a : A) (next : ℕ) (b : A) → i < N → Holds i a → f i at a ≡ go next b → Holds (i + 1) b) where
  run_keeps : (n i at : ℕ) (a : A) (e : ℕ) (b : A) → i + n ≤ N → Holds i a → run f n i at a ≡ go e b → Holds (i + n) b
  unfolding run
  run_keeps zero i at a e b h k q =
      let z : a ≡ b = cc in
      let y : i + 0 ≡ i = omega arith in
      rw (y, ← z) k
  run_keeps (suc n) i at a e b h k q =
      let s = on_step_lem (f i at a) (λ next c. run f n (i + 1) next c) q in
      let y : i + suc n ≡ i + 1 + n = omega arith in
      rw y (run_keeps n (i + 1) s.0 s.1 e b (omega arith) (keeps i at a s.0 s.1 (omega arith) k s.2) s.3)

  -- all of it
  pub run-all : (at : ℕ) (a : A) (e : ℕ) (b : A) → Holds 0 a → run f N 0 at a ≡ go e b → Holds N b
  run-all at a e b k q = let y : 0 + N ≡ N = omega arith in rw y at (run_keeps N 0 at a e b (omega arith) k q)

-- a list of size places, of which i are done, each right by P, and the others hold none
pub record Filled {B : Type 0} (none : B) (P : ℕ → B → Type 0) (size i : ℕ) (l : List B) : Type 0 where
  pub done : (j : ℕ) → j < i → P j (get_or l j none)
  pub rest : (j : ℕ) → i ≤ j → get_or l j none ≡ none
  pub long : length l ≡ size

module _ {B : Type 0} {none : B} {P : ℕ → B → Type 0} {size : ℕ} where
  pub filled_none : Filled none P size 0 (replicate size none)
  filled_none =
      record {
        done = λ j h. absurd (omega arith);
        rest = λ j h. by_test (ltb j size) (λ t. get_or-replicate size j none none (ltb-true j size t))
            (λ t. get_or-eq_default (replicate size none) none {n = j} (omega (arith, ltb-false j size t, length-replicate size none)));
        long = length-replicate size none;
      }

  module _ {i : ℕ} {l : List B} (k : Filled none P size i l) where
    -- the next place is filled
    pub filled-set : {x : B} → i < size → P i x → Filled none P size (i + 1) (set l i x)
    filled-set {x} h p =
        record {
          done = λ j m. by_test (eqb j i)
              (λ t. let e = eqb-true j i t in rw (e, get_or-set_same l i x none (omega (arith, k.long))) p)
              (λ t. rw (get_or-set_other l i j x none (eqb-false j i t)) (k.done j (omega (arith, eqb-false j i t))));
          rest = λ j m. get_or-set_other l i j x none (omega arith) ∙ k.rest j (omega arith);
          long = length-set l i x ∙ k.long;
        }

    -- the next place stays
    pub filled_skip : P i none → Filled none P size (i + 1) l
    filled_skip p =
        record {
          done = λ j m. by_test (eqb j i) (λ t. let e = eqb-true j i t in rw (e, k.rest i (omega arith)) p)
              (λ t. k.done j (omega (arith, eqb-false j i t)));
          rest = λ j m. k.rest j (omega arith);
          long = k.long;
        }
