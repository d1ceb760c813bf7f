-- Assumes nothing.
use mathlib.Core.Path.{◌∙◌}
use borrow.Author.Rules.{rules}
use Rattle.ranges.proofs.After.{cut_found}
use Rattle.ranges.proofs.Checks.{overlap_found}
use Rattle.ranges.proofs.Ranking.two_cut.Goals as goal

pub returns-then-count-gt64 : goal.returns-then-count-gt64
returns-then-count-gt64 c = rw c.first_overlap.ensures (overlap_found _ _ _)

pub returns : goal.returns
returns c = c.some_cut.ensures ∙ cut_found _ _ _ _ c.range_sets-sets.ensures (search rules)
