-- Document 01, "Outcome numbers": "First that holds, in this order. Each leaves the policy unchanged and returns number 0 beside it."
use Rattle.std.specs.Prelude.{Bool, ℕ, eqb, Result, Ok, Err}
use Rattle.sets.specs.Tests.{pick}
use Rattle.policy.specs.declared.Policy.{Policy}
use Rattle.policy.specs.declared.Refusal.{Refusal}
use Rattle.policy.specs.declared.Refusal.TheVariants.{UnknownKind, UnknownName, NotAllowed, NotSatisfied, NothingToDo, NoFreeRole, RoleNamed, RoleHeld}
use Rattle.policy.specs.declared.Refusal.TheVariants.{RangeSpoilt, BufferTooShort}

-- what a request gives: the outcome, the number beside it, and the policy after
pub record Answer : Type 0 where
  pub outcome : ℕ
  pub number : ℕ
  pub policy : Policy

-- the table's number of each refusal
abbrev pub number : Refusal → ℕ
number UnknownKind = 1
number UnknownName = 2
number NotAllowed = 3
number NotSatisfied = 4
number NothingToDo = 5
number NoFreeRole = 6
number RoleNamed = 7
number RoleHeld = 8
number RangeSpoilt = 9
number BufferTooShort = 10

-- the outcome of what is done or refused: "Acceptance is 0"
abbrev pub outcome_of : {A : Type 0} → Result A Refusal → ℕ
outcome_of (Ok x) = 0
outcome_of (Err r) = number r

-- the refusals of a request in their order, each a condition and its number
pub data Refusals : Type 0 where
  accept : Refusals
  refuse : Bool → ℕ → Refusals → Refusals

-- the number of the first whose condition holds, and 0 where none does
unfoldable pub first : Refusals → ℕ
first accept = 0
first (refuse b n r) = pick b n (first r)

abbrev pub refused : Policy → ℕ → Answer
refused p n = record { outcome = n; number = 0; policy = p }

-- "Acceptance is 0, with the new role's number for kind 5 and 0 otherwise."
abbrev pub accepted : Policy → ℕ → Answer
accepted p n = record { outcome = 0; number = n; policy = p }

-- the answer to a request: p is the policy before, n the outcome, q and k the policy after and the number beside it where it is accepted
unfoldable pub answer : Policy → ℕ → Policy → ℕ → Answer
answer p n q k = pick (eqb n 0) (accepted q k) (refused p n)
