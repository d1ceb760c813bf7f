use mathlib.Core.Path.{sym, ◌∙◌}
use Rattle.sets.proofs.Tests.{or_given}
use Rattle.order.specs.Order.{faulty}
use Rattle.order.proofs.Lists.{lacks_faulty}
use Rattle.order.proofs.is_faulty.Goals as goal

pub returns-else-is_senior : goal.returns-else-is_senior
unfolding faulty
returns-else-is_senior c =
    rw c.juniors_of.ensures at c.lacks_one.ensures ∙ lacks_faulty c.args.juniors.now c.args.a
    ∙ sym (or_given _ _ (sym c.is_senior.ensures ∙ c.if-is_senior.false))
