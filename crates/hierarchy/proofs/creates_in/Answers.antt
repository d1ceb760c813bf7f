use native.Mathlib.Omega.{arith}
use Rattle.sets.specs.Tests.{◌and◌}
use Rattle.hierarchy.specs.Rules.{create_in}
use Rattle.hierarchy.proofs.creates_in.Goals as goal

pub returns-then-is_at_least : goal.returns-then-is_at_least
unfolding create_in ◌and◌
returns-then-is_at_least c = grind arith

pub returns-else-is_at_least : goal.returns-else-is_at_least
unfolding create_in ◌and◌
returns-else-is_at_least c = grind arith
