use mathlib.Core.Path.{sym}
use native.Mathlib.Omega.{arith}
use borrow.Author.Tests.{ne_eqb}
use Rattle.sets.proofs.Tests.{or_given}
use Rattle.ranges.proofs.with_end.Goals as goal

pub returns-else-end-lt64 : goal.returns-else-end-lt64
returns-else-end-lt64 c = λ m l. sym (or_given _ _ (ne_eqb m c.args.end (omega arith)))
