-- Assumes nothing.
use mathlib.Core.Path.{◌∙◌}
use Rattle.ranges.proofs.After.{one_of_two}
use Rattle.ranges.proofs.difference.Goals as goal

pub returns : goal.returns
returns c = λ m. c.union.ensures m ∙ rw (c.minus.ensures m, c.minus-2.ensures m) (one_of_two _ _)
