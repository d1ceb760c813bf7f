-- Assumes nothing.
use mathlib.Core.Bool.{not}
use mathlib.Core.Path.{sym, ap, ◌∙◌}
use Rattle.ranges.proofs.Checks.{overlap_found, unsound_row, unsound_pair, unsound_stays}
use Rattle.ranges.proofs.Ranking.is_unsound_after.Goals as goal

pub returns-then-some_fails_after : goal.returns-then-some_fails_after
returns-then-some_fails_after c =
    let found = c.if-some_fails_after.true in
    found ∙ unsound_row _ _ _ _ (sym c.some_fails_after.ensures ∙ found)

pub returns-then-not-ranges_stay : goal.returns-then-not-ranges_stay
returns-then-not-ranges_stay c =
    c.two_cut.ensures ∙ sym (overlap_found _ _ _) ∙ unsound_pair _ _ _ _ (sym c.some_fails_after.ensures ∙ c.if-some_fails_after.false)

pub returns-else-not-ranges_stay : goal.returns-else-not-ranges_stay
returns-else-not-ranges_stay c =
    let stay = c.if-not-ranges_stay.false in
    ap not stay ∙ unsound_stays _ _ _ _ (sym c.some_fails_after.ensures ∙ c.if-some_fails_after.false) _ _ c.requires.sound
    (c.ranges_stay.ensures stay)
