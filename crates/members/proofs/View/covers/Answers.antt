use mathlib.Core.Path.{sym, ◌∙◌}
use Rattle.sets.proofs.Tests.{and_fails_l, and_given}
use Rattle.members.specs.Rules.{covers}
use Rattle.members.proofs.View.covers.Goals as goal

pub returns-then-contains : goal.returns-then-contains
unfolding covers
returns-then-contains c = c.in_range.ensures ∙ sym (and_given _ _ (sym c.contains.ensures ∙ c.if-contains.true))

pub returns-else-contains : goal.returns-else-contains
unfolding covers
returns-else-contains c = c.if-contains.false ∙ sym (and_fails_l _ _ (sym c.contains.ensures ∙ c.if-contains.false))
