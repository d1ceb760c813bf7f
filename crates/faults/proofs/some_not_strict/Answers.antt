-- Assumes nothing.
use mathlib.Core.Path.{sym, ◌∙◌}
use Rattle.sets.proofs.Tests.{or_l, or_given}
use Rattle.faults.proofs.some_not_strict.Goals as goal

pub returns-then-not_strict : goal.returns-then-not_strict
returns-then-not_strict c =
    let found = c.if-not_strict.true in
    found ∙ sym (or_l _ _ (sym c.not_strict.ensures ∙ found))

pub returns-else-not_strict : goal.returns-else-not_strict
returns-else-not_strict c = c.not_strict-else-not_strict.ensures ∙ sym (or_given _ _ (sym c.not_strict.ensures ∙ c.if-not_strict.false))
