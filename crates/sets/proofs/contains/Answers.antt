use mathlib.Core.Path.{sym, ◌∙◌}
use borrow.Author.Tests.{le-ltb}
use Rattle.sets.proofs.Digits.{has_beyond}
use Rattle.sets.proofs.contains.Goals as goal

pub returns-else-n-lt64 : goal.returns-else-n-lt64
returns-else-n-lt64 c = le-ltb _ _ c.if-n-lt64.false ∙ sym (has_beyond 64 _ _ c.ranges.s.fits c.if-n-lt64.false)
