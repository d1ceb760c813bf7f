-- Assumes nothing.
use mathlib.Core.Path.{refl}
use Rattle.policy.specs.declared.Change.TheVariants.{User}
use Rattle.members.specs.Rules.{user_view, assign_user}
use Rattle.members.proofs.Decided.{decided_roles}
use Rattle.members.proofs.assign_user.Goals as goal

pub assigned-requires : goal.assigned-requires
unfolding user_view
assigned-requires c = rw c.user_view.ensures c.requires.assign

pub returns : goal.returns
unfolding user_view assign_user
returns c = decided_roles c.args.p.now c.args.a User (λ _. refl) _ _ _ _ (rw c.user_view.ensures at c.assigned.ensures) c.map.ensures.cases
