use mathlib.Core.Path.{sym, ◌∙◌}
use Rattle.sets.proofs.Tests.{and_fails_l, and_given}
use Rattle.ranges.proofs.Laws.{parted_split}
use Rattle.ranges.proofs.Ranking.is_parted.Goals as goal

pub returns-then-agree : goal.returns-then-agree
returns-then-agree c =
    let x = c.args in
    let over = rw c.seniors_of.ensures at c.agree.ensures in
    let under = rw c.juniors_of.ensures at c.agree-then-agree.ensures in
    under ∙ sym (parted_split _ _ x.self.above x.r x.outside x.above x.below ∙ and_given _ _ (sym over ∙ c.if-agree.true))

pub returns-else-agree : goal.returns-else-agree
returns-else-agree c =
    let x = c.args in
    let over = rw c.seniors_of.ensures at c.agree.ensures in
    let out = c.if-agree.false in
    out ∙ sym (parted_split _ _ x.self.above x.r x.outside x.above x.below ∙ and_fails_l _ _ (sym over ∙ out))
