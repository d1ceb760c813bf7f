-- Assumes nothing.
use mathlib.Core.Path.{sym, ap, ◌∙◌}
use mathlib.Core.Bool.{not}
use borrow.Author.Rules.{rules}
use borrow.Author.Tests.{eq-eqb}
use Rattle.sets.proofs.Tests.{clash, and_fails_l, and_fails_r, and_given}
use Rattle.sets.proofs.Builders.{no_member, some_member}
use Rattle.ranges.specs.Ranges.{overlap_in_part}
use Rattle.ranges.proofs.Laws.{some_test}
use Rattle.ranges.proofs.cut_across.Goals.{then-both-ne0, else-both-ne0}
use Rattle.ranges.proofs.cut_across.Goals as goal

pub returns-then-minus-ne0 : goal.returns-then-minus-ne0
unfolding overlap_in_part
returns-then-minus-ne0 c =
    some_test _ _ (search rules) c.minus-then-minus-ne0.ensures
    ∙ elim c.if-both-ne0.branch [
      | then-both-ne0 w ↦
          sym (and_given _ _ (some_member 64 _ _ (search rules) c.both.ensures w.if-both-ne0.true)
          ∙ and_given _ _ (sym (some_test _ _ (search rules) w.minus.ensures) ∙ sym w.value-is ∙ c.if-minus-ne0.true))
      | else-both-ne0 w ↦ clash c.if-minus-ne0.true (w.value-is ∙ ap not (eq-eqb _ _ w.if-both-ne0.false))
    ]

pub returns-else-minus-ne0 : goal.returns-else-minus-ne0
unfolding overlap_in_part
returns-else-minus-ne0 c =
    c.if-minus-ne0.false
    ∙ elim c.if-both-ne0.branch [
      | then-both-ne0 w ↦
          sym (and_fails_r _ _ (and_fails_l _ _ (sym (some_test _ _ (search rules) w.minus.ensures) ∙ sym w.value-is ∙ c.if-minus-ne0.false)))
      | else-both-ne0 w ↦ sym (and_fails_l _ _ (no_member 64 _ _ (search rules) c.both.ensures w.if-both-ne0.false))
    ]
