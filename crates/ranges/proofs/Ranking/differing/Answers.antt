-- The loop's invariant: of the roles taken so far, each stands to those outside the set as before.
-- Assumes nothing.
use mathlib.Core.Path.{sym, ◌∙◌}
use Rattle.sets.proofs.Tests.{or_fails_l, or_fails_r}
use Rattle.sets.proofs.Members.{left_turn, left_end}
use Rattle.ranges.proofs.After.{same_wider}
use borrow.Author.Rules.{rules}
use Rattle.ranges.proofs.Ranking.differing.Goals as goal

pub loop-rest-preserved : goal.loop-rest-preserved
loop-rest-preserved c =
    let wider = c.union-set.ensures in (
      search rules,
      left_turn _ _ _ _ _ _ c.loop-rest.invariant.1 (rw (← c.lowest.ensures) at c.without_lowest-rest.ensures.1)
          (same_wider _ _ _ _ (λ s o. or_fails_l _ _ (sym (wider s) ∙ o)))
          (same_wider _ _ _ _ (λ s o. or_fails_r _ _ (sym (wider s) ∙ o)) _ c.differing_at-more.ensures),
    )

pub returns : goal.returns
returns c = record { same = left_end _ _ _ c.loop-rest.invariant.1 (search rules) }
