-- Assumes nothing.
use mathlib.Core.Path.{◌∙◌}
use Rattle.order.specs.Order.{senior, at_least}
use Rattle.sets.proofs.Tests.{eqb_sym}
use Rattle.ranges.specs.Ranking.{over}
use Rattle.ranges.proofs.Laws.{ends_parted}
use Rattle.ranges.proofs.Ranking.parted_by_ends.Goals as goal

pub returns : goal.returns
unfolding at_least senior
returns c =
    let x = c.args in
    c.each_parted.ensures
    ∙ ends_parted (over x.self) x.row.low.0 x.row.high.0 _ _ _ _
    (λ s l. c.with_end-above.ensures s l ∙ rw (c.seniors_of.ensures, x.self.above.seniors x.row.high.0 s))
    (λ s l. c.with_end-below.ensures s l ∙ rw (c.juniors_of.ensures, eqb_sym s x.row.low.0))
