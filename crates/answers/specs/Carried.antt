-- A request that was decided, carried out: "Read, request, write: the first refusal is returned, with length 0."
use Rattle.std.specs.Prelude.{ℕ, ◌≡◌, List, eqb}
use Rattle.sets.specs.Tests.{pick}
use Rattle.policy.specs.Outcome.{Answer}
use Rattle.writing.specs.Writing.{answer_of, bytes_after}
use Rattle.answers.specs.Answers.{Fields, packed, refusal, of_written}

-- what was decided is written if it was accepted
unfoldable pub carried_out : Answer → List ℕ → Fields
carried_out d before = pick (eqb d.outcome 0) (of_written d.number (answer_of d.policy before)) (refusal d.outcome 0)

unfoldable pub carried_bytes : Answer → List ℕ → List ℕ
carried_bytes d before = pick (eqb d.outcome 0) (bytes_after d.policy before) before

pub record CarriedOut (d : Answer) (before : List ℕ) (r : ℕ) (after : List ℕ) : Type 0 where
  pub answer : r ≡ packed (carried_out d before)
  pub bytes : after ≡ carried_bytes d before
