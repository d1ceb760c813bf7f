-- Assumes nothing.
use Rattle.ranges.proofs.Checks.{later}
use Rattle.ranges.proofs.Ranking.overlaps_later.Goals as goal

pub returns : goal.returns
returns c = rw c.overlap_from.ensures (later _ _ _ _ _ c.range_set.ensures)
