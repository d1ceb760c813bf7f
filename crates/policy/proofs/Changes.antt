-- The answer that a decision stands for: r is why it is refused, c what it changes.
-- Assumes nothing.
use mathlib.Core.Path.{◌≡◌, refl}
use Prim.Native.Nat.{ℕ, ◌<◌}
use native.Mathlib.Omega.{arith}
use lib.Dec.{eqb}
use borrow.Author.Tests.{ne_eqb}
use Rattle.std.specs.Prelude.{Result, Ok, Err}
use Rattle.std.specs.Result.{is_ok}
use Rattle.policy.specs.declared.Policy.{Policy}
use Rattle.policy.specs.declared.Refusal.{Refusal}
use Rattle.policy.specs.declared.Refusal.TheVariants.{UnknownKind, UnknownName, NotAllowed, NotSatisfied, NothingToDo, NoFreeRole, RoleNamed, RoleHeld}
use Rattle.policy.specs.declared.Refusal.TheVariants.{RangeSpoilt, BufferTooShort}
use Rattle.policy.specs.declared.Change.{Change}
use Rattle.policy.specs.Outcome.{number, outcome_of, answer}
use Rattle.policy.specs.Change.{changed, beside, decided}
use Rattle.policy.proofs.Outcomes.{answer-refused, answer-accepted}

-- no refusal has the number of acceptance, and each is in the table
pub number_between : (r : Refusal) → (0 < number r) × (number r < 11)
number_between UnknownKind = (omega arith, omega arith)
number_between UnknownName = (omega arith, omega arith)
number_between NotAllowed = (omega arith, omega arith)
number_between NotSatisfied = (omega arith, omega arith)
number_between NothingToDo = (omega arith, omega arith)
number_between NoFreeRole = (omega arith, omega arith)
number_between RoleNamed = (omega arith, omega arith)
number_between RoleHeld = (omega arith, omega arith)
number_between RangeSpoilt = (omega arith, omega arith)
number_between BufferTooShort = (omega arith, omega arith)

-- what is done or refused is done exactly if its outcome is 0
pub outcome-is_ok : {A : Type 0} (r : Result A Refusal) → eqb (outcome_of r) 0 ≡ is_ok r
outcome-is_ok (Ok x) = refl
outcome-is_ok (Err r) = ne_eqb (number r) 0 (λ z. omega (arith, (number_between r).0))

-- n is the outcome by the rules, q and k the policy after and the number beside acceptance
module _ (p : Policy) (a : ℕ) (n : ℕ) (q : Policy) (k : ℕ) where
  pub decided-refused : (r : Refusal) → number r ≡ n → decided p a (Err r) ≡ answer p n q k
  decided-refused r e = answer-refused p n q k e (λ z. omega (arith, (number_between r).0))

  pub decided-accepted : (c : Change) → 0 ≡ n → changed p a c ≡ q → beside c ≡ k → decided p a (Ok c) ≡ answer p n q k
  decided-accepted c e d h = answer-accepted p n q k e refl d h
