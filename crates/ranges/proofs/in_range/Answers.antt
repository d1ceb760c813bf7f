use Rattle.ranges.proofs.Laws.{out_of_range, rest_of_range}
use mathlib.Core.Path.{◌∙◌}
use Rattle.ranges.proofs.in_range.Goals as goal

pub returns-then-at_or_over : goal.returns-then-at_or_over
returns-then-at_or_over c =
    rest_of_range _ _ _ _ _ _ _ c.at_or_over.ensures c.has.ensures
    c.if-at_or_over.true _ _ c.at_or_over-then-at_or_over.ensures c.has-then-at_or_over.ensures

pub returns-else-at_or_over : goal.returns-else-at_or_over
returns-else-at_or_over c =
    let out = c.if-at_or_over.false in
    out ∙ out_of_range _ _ _ _ _ _ _ c.at_or_over.ensures c.has.ensures out
