use borrow.Author.Rules.{rules}
use mathlib.Core.Path.{◌∙◌}
use Rattle.sets.proofs.Builders.{empty_test, none_lacks}
use Rattle.sets.proofs.subset.Goals as goal

pub returns : goal.returns
returns c = empty_test 64 c.minus.result _ (search rules) c.minus.ensures ∙ none_lacks 64 _ _
