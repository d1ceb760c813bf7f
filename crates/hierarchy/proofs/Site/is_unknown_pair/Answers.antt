use native.Mathlib.Omega.{arith}
use Rattle.sets.specs.Tests.{◌and◌, neg}
use Rattle.hierarchy.specs.Rules.{unknown_role, unknown_pair}
use Rattle.hierarchy.proofs.Site.is_unknown_pair.Goals as goal

pub returns-then-is_unknown_role-clause-number : goal.returns-then-is_unknown_role-clause-number
unfolding unknown_role unknown_pair ◌and◌ neg
returns-then-is_unknown_role-clause-number c = grind arith

pub returns-else-is_unknown_role-clause-number : goal.returns-else-is_unknown_role-clause-number
unfolding unknown_role unknown_pair ◌and◌ neg
returns-else-is_unknown_role-clause-number c = grind arith
