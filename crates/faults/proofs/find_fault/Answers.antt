-- Assumes nothing.
use Rattle.policy.proofs.Outcomes.{first_that_holds}
use Rattle.faults.specs.Faults.{fault}
use Rattle.faults.proofs.find_fault.Goals as goal

pub returns-then-some_not_strict : goal.returns-then-some_not_strict
unfolding fault
returns-then-some_not_strict c = search first_that_holds depth 12

pub returns : goal.returns
unfolding fault
returns c = search first_that_holds depth 12
