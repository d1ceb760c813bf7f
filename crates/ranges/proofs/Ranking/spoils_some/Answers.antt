-- Assumes nothing.
use mathlib.Core.Path.{sym, ◌∙◌}
use borrow.Author.Tests.{lt-ltb, le-ltb}
use Rattle.ranges.proofs.Checks.{failing_found, unsound_row, unsound_pair}
use Rattle.ranges.proofs.Ranking.spoils_some.Goals as goal

pub returns-then-first_failing-count : goal.returns-then-first_failing-count
returns-then-first_failing-count c =
    let found = lt-ltb _ _ c.if-first_failing-count.true in
    found ∙ unsound_row _ _ _ _ (sym (failing_found _ _ _ _ _) ∙ rw c.first_failing.ensures at found)

pub returns-else-first_failing-count : goal.returns-else-first_failing-count
returns-else-first_failing-count c =
    let passed = le-ltb _ _ c.if-first_failing-count.false in
    rw c.first_overlap.ensures (unsound_pair _ _ _ _ (sym (failing_found _ _ _ _ _) ∙ rw c.first_failing.ensures at passed))
