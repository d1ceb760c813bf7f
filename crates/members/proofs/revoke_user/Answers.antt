-- Assumes nothing.
use mathlib.Core.Path.{refl}
use Rattle.policy.specs.declared.Change.TheVariants.{User}
use Rattle.members.specs.Rules.{user_view, revoke_user}
use Rattle.members.proofs.Decided.{decided_roles}
use Rattle.members.proofs.revoke_user.Goals as goal

pub revoked-requires : goal.revoked-requires
unfolding user_view
revoked-requires c = rw c.user_view.ensures c.requires.revoke

pub returns : goal.returns
unfolding user_view revoke_user
returns c = decided_roles c.args.p.now c.args.a User (λ _. refl) _ _ _ _ (rw c.user_view.ensures at c.revoked.ensures) c.map.ensures.cases
