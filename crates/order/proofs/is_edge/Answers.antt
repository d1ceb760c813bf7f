use mathlib.Core.Path.{sym, ◌∙◌}
use Rattle.sets.specs.Tests.{◌and◌}
use Rattle.sets.proofs.Tests.{and_given}
use Rattle.sets.proofs.Builders.{empty_test}
use Rattle.order.specs.Order.{senior, edge}
use borrow.Author.Rules.{rules}
use Rattle.order.proofs.is_edge.Goals as goal

pub returns-then-is_senior : goal.returns-then-is_senior
unfolding edge senior
returns-then-is_senior c =
    let x = c.args in
    empty_test 64 c.both.result (λ z. senior x.juniors.now x.a z and senior x.juniors.now z x.b) (search rules)
    (λ z. c.both.ensures z ∙ rw (c.juniors_of.ensures, c.seniors.ensures z))
    ∙ sym (and_given _ _ (sym c.is_senior.ensures ∙ c.if-is_senior.true))
