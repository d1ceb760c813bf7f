-- Assumes nothing.
use mathlib.Core.Path.{ap, ◌∙◌}
use borrow.Author.Tests.{eq-eqb}
use mathlib.Core.Bool.{not}
use Rattle.sets.specs.Tests.{neg}
use Rattle.sets.proofs.Tests.{not_neg}
use Rattle.ranges.specs.Rows.{within}
use Rattle.ranges.proofs.Kept.{kept_fails, none_fresh}
use Rattle.ranges.proofs.Ranking.fails_after.Goals as goal

pub returns-else-fresh-ne0 : goal.returns-else-fresh-ne0
unfolding within
returns-else-fresh-ne0 c =
    let given = c.requires in
    ap not (eq-eqb _ _ c.if-fresh-ne0.false) ∙ none_fresh _ _ _ _ _ _ _ _ given.in_use given.low_junior given.capsule given.outside
    (c.is_kept.ensures c.if-not-is_kept.false)
    c.range_set-range.ensures c.minus-outside.ensures _ c.minus-fresh.ensures c.if-fresh-ne0.false

pub returns-then-fresh-ne0 : goal.returns-then-fresh-ne0
unfolding within
returns-then-fresh-ne0 c =
    let given = c.requires in
    not_neg _ ∙ ap neg c.parted_by_ends.ensures
    ∙ kept_fails _ _ _ _ _ _ _ _ given.in_use given.low_junior given.capsule given.outside
    (c.is_kept.ensures c.if-not-is_kept.false)
    c.range_set-range.ensures c.minus-outside.ensures _ c.minus-fresh.ensures
