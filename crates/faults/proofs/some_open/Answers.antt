-- Assumes nothing.
use Rattle.ranges.specs.Rows.{row_fails}
use Rattle.faults.specs.Faults.{some_open}
use Rattle.faults.proofs.some_open.Goals as goal

pub returns : goal.returns
unfolding row_fails some_open
returns c = c.some_fails.ensures
