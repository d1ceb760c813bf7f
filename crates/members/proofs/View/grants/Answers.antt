use mathlib.Core.Path.{sym, ◌∙◌}
use Rattle.sets.proofs.Tests.{and_fails_l, and_given}
use Rattle.members.proofs.View.grants.Goals as goal

pub returns-then-covers : goal.returns-then-covers
returns-then-covers c = c.satisfies.ensures ∙ sym (and_given _ _ (sym c.covers.ensures ∙ c.if-covers.true))

pub returns-else-covers : goal.returns-else-covers
returns-else-covers c = c.if-covers.false ∙ sym (and_fails_l _ _ (sym c.covers.ensures ∙ c.if-covers.false))
