use mathlib.Core.Path.{◌∙◌}
use Rattle.ranges.specs.Rows.{within}
use Rattle.ranges.proofs.Laws.{set-inside}
use Rattle.ranges.proofs.Ranking.range_set.Goals as goal

pub returns : goal.returns
unfolding within
returns c = λ r. c.both.ensures r ∙ rw (c.seniors_of.ensures, c.juniors_of.ensures) (set-inside _ _ c.args.self.above _ _ r)
