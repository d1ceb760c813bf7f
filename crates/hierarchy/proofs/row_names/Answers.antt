use native.Mathlib.Omega.{arith}
use Rattle.sets.specs.Tests.{◌or◌}
use Rattle.hierarchy.specs.Rules.{row_names}
use Rattle.hierarchy.proofs.row_names.Goals as goal

pub returns-then-contains : goal.returns-then-contains
unfolding row_names ◌or◌
returns-then-contains c = grind arith

pub returns-else-contains : goal.returns-else-contains
unfolding row_names ◌or◌
returns-else-contains c = grind arith
