use native.Mathlib.Omega.{arith}
use Rattle.sets.specs.Tests.{◌or◌}
use Rattle.hierarchy.specs.Rules.{named}
use Rattle.hierarchy.proofs.is_named.Goals as goal

pub returns-then-table_names-4 : goal.returns-then-table_names-4
unfolding named ◌or◌
returns-then-table_names-4 c = grind arith

pub returns-else-table_names-4 : goal.returns-else-table_names-4
unfolding named ◌or◌
returns-else-table_names-4 c = grind arith
