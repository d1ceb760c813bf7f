use mathlib.Core.Path.{◌∙◌}
use Rattle.ranges.proofs.Checks.{fails_low, fails_open, fails_first, fails_second}
use Rattle.ranges.proofs.Ranking.row_fails.Goals as goal

pub returns-in-Low : goal.returns-in-Low
returns-in-Low c = fails_low _ _ _ _ _ c.in-Low.is c.low_not_junior.ensures

pub returns-in-Open : goal.returns-in-Open
returns-in-Open c = fails_open _ _ _ _ _ c.in-Open.is c.not_encapsulated.ensures

pub returns-then-low_not_junior : goal.returns-then-low_not_junior
returns-then-low_not_junior c =
    c.if-low_not_junior.true ∙ fails_first _ _ _ _ _ c.in-Either.is c.low_not_junior-in-Either.ensures c.if-low_not_junior.true

pub returns-else-low_not_junior : goal.returns-else-low_not_junior
returns-else-low_not_junior c =
    fails_second _ _ _ _ _ c.in-Either.is _ c.low_not_junior-in-Either.ensures c.if-low_not_junior.false
    c.not_encapsulated-else-low_not_junior.ensures
