-- Assumes nothing.
use mathlib.Core.Path.{refl}
use Rattle.policy.specs.declared.Change.TheVariants.{Permission}
use Rattle.members.specs.Rules.{permission_view, assign_permission}
use Rattle.members.proofs.Decided.{decided_roles}
use Rattle.members.proofs.assign_permission.Goals as goal

pub assigned-requires : goal.assigned-requires
unfolding permission_view
assigned-requires c = rw c.permission_view.ensures c.requires.assignp

pub returns : goal.returns
unfolding permission_view assign_permission
returns c = decided_roles c.args.p.now c.args.a Permission (λ _. refl) _ _ _ _ (rw c.permission_view.ensures at c.assigned.ensures) c.map.ensures.cases
