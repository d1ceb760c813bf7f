-- Assumes nothing.
use borrow.Author.Rules.{rules}
use Rattle.ranges.proofs.Checks.{some_failing_lent}
use Rattle.faults.proofs.some_fails.Goals as goal

pub returns : goal.returns
returns c = rw c.first_failing.ensures (some_failing_lent _ _ (search rules) _ _ _)
