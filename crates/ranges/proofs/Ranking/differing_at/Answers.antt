-- Assumes nothing.
use Rattle.ranges.proofs.After.{same_at}
use Rattle.ranges.proofs.Ranking.differing_at.Goals as goal

pub returns : goal.returns
returns c =
    let x = c.args in
    let below = c.difference-below.ensures in
    let above = c.difference-above.ensures in
    same_at _ _ _ _ x.self.above x.after.above _ _ _ _ c.union.ensures
    (rw (c.juniors_of.ensures, c.juniors_of-2.ensures) at below)
    (rw (c.seniors_of.ensures, c.seniors_of-2.ensures) at above)
