use borrow.Author.Rules.{rules}
-- Assumes nothing.
use mathlib.Core.Path.{sym, ◌∙◌}
use borrow.Author.Tests.{eqb-true}
use Rattle.sets.proofs.Tests.{clash}
use Rattle.ranges.proofs.After.{members_kept, clear_of}
use Rattle.ranges.proofs.Ranking.is_kept.Goals.{then-ends_stay, else-ends_stay}
use Rattle.ranges.proofs.Ranking.is_kept.Goals as goal

pub returns-then-agree : goal.returns-then-agree
returns-then-agree c =
    elim c.if-ends_stay.branch [
      | then-ends_stay w ↦ λ t.
          record {
            ends = c.ends_stay.ensures w.if-ends_stay.true;
            members = members_kept _ _ _ _ (search rules) (sym w.agree.ensures ∙ sym w.value-is ∙ c.if-agree.true) w.range_set.ensures;
            clear = clear_of _ _ _ c.both.ensures (eqb-true _ _ t);
          }
      | else-ends_stay w ↦ clash c.if-agree.true (w.value-is ∙ w.if-ends_stay.false)
    ]
