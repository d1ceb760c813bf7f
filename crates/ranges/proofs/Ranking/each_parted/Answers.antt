-- The loop takes the members of the range, the lowest first: those that are no longer left are parted.
-- Assumes nothing.
use mathlib.Core.Path.{sym, ◌∙◌}
use Rattle.sets.proofs.Members.{left_turn}
use Rattle.ranges.proofs.Laws.{passed_not, passed_all}
use borrow.Author.Rules.{rules}
use Rattle.ranges.proofs.Ranking.each_parted.Goals as goal

pub returns-then-not-is_parted : goal.returns-then-not-is_parted
returns-then-not-is_parted c =
    passed_not _ _ _ _ c.loop-rest.invariant.1 c.lowest.ensures (search rules) (search rules)
    (sym c.is_parted.ensures ∙ c.if-not-is_parted.true)

pub loop-rest-preserved : goal.loop-rest-preserved
loop-rest-preserved c = (
  search rules,
  left_turn _ _ _ _ _ _ c.loop-rest.invariant.1 (rw (← c.lowest.ensures) at c.without_lowest-rest.ensures.1) (λ n p. p)
      (sym c.is_parted.ensures ∙ c.if-not-is_parted.false),
)

pub returns : goal.returns
returns c = passed_all _ _ _ c.loop-rest.invariant.1 (search rules)
