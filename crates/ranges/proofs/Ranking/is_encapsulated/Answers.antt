-- Assumes nothing.
use mathlib.Core.Path.{◌∙◌}
use Rattle.ranges.specs.Rows.{within}
use Rattle.ranges.proofs.Laws.{encapsulated_is}
use Rattle.ranges.proofs.Ranking.is_encapsulated.Goals as goal

pub returns : goal.returns
unfolding within
returns c = c.parted_by_ends.ensures ∙ encapsulated_is _ _ _ _ _ _ c.range_set-range.ensures c.minus.ensures
