-- Assumes nothing.
use mathlib.Core.Path.{refl}
use Rattle.policy.specs.declared.Change.TheVariants.{Permission}
use Rattle.members.specs.Rules.{permission_view, revoke_permission}
use Rattle.members.proofs.Decided.{decided_roles}
use Rattle.members.proofs.revoke_permission.Goals as goal

pub revoked-requires : goal.revoked-requires
unfolding permission_view
revoked-requires c = rw c.permission_view.ensures c.requires.revokep

pub returns : goal.returns
unfolding permission_view revoke_permission
returns c = decided_roles c.args.p.now c.args.a Permission (λ _. refl) _ _ _ _ (rw c.permission_view.ensures at c.revoked.ensures) c.map.ensures.cases
