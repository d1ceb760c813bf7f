use mathlib.Core.Path.{◌∙◌}
use Rattle.members.proofs.Laws.{not_satisfied, rest-satisfied}
use borrow.Author.Rules.{rules}
use Rattle.members.proofs.View.satisfies.Goals as goal

pub returns-then-subset : goal.returns-then-subset
returns-then-subset c = rest-satisfied _ _ _ c.subset.ensures c.if-subset.true _ (search rules) c.both.ensures

pub returns-else-subset : goal.returns-else-subset
returns-else-subset c = c.if-subset.false ∙ not_satisfied _ _ _ c.subset.ensures c.if-subset.false
