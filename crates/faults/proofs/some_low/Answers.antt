-- Assumes nothing.
use Rattle.ranges.specs.Rows.{row_fails}
use Rattle.faults.specs.Faults.{some_low}
use Rattle.faults.proofs.some_low.Goals as goal

pub returns : goal.returns
unfolding row_fails some_low
returns c = c.some_fails.ensures
