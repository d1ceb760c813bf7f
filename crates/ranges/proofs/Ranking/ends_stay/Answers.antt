-- Assumes nothing.
use mathlib.Core.Path.{sym, ◌∙◌}
use borrow.Author.Tests.{eqb-true}
use Rattle.sets.proofs.Tests.{clash}
use Rattle.ranges.proofs.After.{ends_kept}
use Rattle.ranges.proofs.Ranking.ends_stay.Goals.{then-is_senior, else-is_senior}
use Rattle.ranges.proofs.Ranking.ends_stay.Goals as goal

pub returns-then-seniors_of : goal.returns-then-seniors_of
returns-then-seniors_of c =
    let x = c.args in
    elim c.if-is_senior.branch [
      | then-is_senior w ↦ λ t.
          ends_kept _ _ _ _ x.self.above x.after.above _ (sym c.is_senior.ensures ∙ w.if-is_senior.true)
          (sym w.seniors_of.ensures ∙ eqb-true _ _ (sym w.value-is ∙ c.if-seniors_of.true) ∙ w.seniors_of-then-is_senior.ensures)
          (sym c.juniors_of.ensures ∙ eqb-true _ _ t ∙ c.juniors_of-then-seniors_of.ensures)
      | else-is_senior w ↦ clash c.if-seniors_of.true (w.value-is ∙ w.if-is_senior.false)
    ]
