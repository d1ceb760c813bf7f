-- Assumes nothing.
use mathlib.Core.Path.{refl}
use native.Mathlib.Omega.{arith}
use Rattle.std.proofs.Common.{rules}
use Rattle.parts.proofs.Laws.{table_low, table_high}
use Rattle.parts.proofs.TableNameTryFromU64.try_from.Goals as goal

pub returns-then-number-lt-FIRST : goal.returns-then-number-lt-FIRST
returns-then-number-lt-FIRST c = search (rules, table_low c.args.number c.if-number-lt-FIRST.true)

pub returns-in_default : goal.returns-in_default
returns-in_default c = (refl, table_high c.args.number (omega arith))
