-- The test is that a set is not empty: the set of what the roles held reach and the permission is in.
-- Assumes nothing.
use mathlib.Core.Path.{ap, ◌∙◌}
use mathlib.Core.Bool.{not}
use Rattle.sets.proofs.Tests.{not_neg, neg-neg}
use Rattle.sets.proofs.Builders.{empty_test}
use Rattle.policy.proofs.Laws.{reached_meets}
use borrow.Author.Rules.{rules}
use Rattle.policy.proofs.exercises.Goals as goal

pub returns : goal.returns
returns c =
    ap not (empty_test 64 c.both.result _ (search rules) c.both.ensures) ∙ not_neg _ ∙ neg-neg _
    ∙ rw c.reached.ensures (reached_meets _ _ _)
