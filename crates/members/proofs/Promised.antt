-- What each of kinds 1 to 4 promises, from every policy and for all numbers.
-- Assumes nothing.
use mathlib.Core.Path.{◌≡◌, refl}
use Prim.Native.Nat.{ℕ}
use borrow.Author.Tests.{ltb-true}
use Rattle.sets.proofs.Tests.{and_r}
use Rattle.policy.specs.declared.Policy.{Policy}
use Rattle.policy.specs.Good.{Good}
use Rattle.policy.specs.Outcome.{Answer, Refusals, first, answer}
use Rattle.members.specs.Rules.{user_view, permission_view, assign_rules, revoke_rules, assign_user, revoke_user, assign_permission, revoke_permission}
use Rattle.policy.proofs.Outcomes.{answer_outcome, answer_policy}
use Rattle.policy.proofs.FirstLaws.{answer-unchanged, answer_number}
use Rattle.members.proofs.Keep.{assign_known, revoke_known, with_inside, without_inside, users_good, permissions_good}

-- the answer r to a request on the policy p with these refusals
pub record Promised (p : Policy) (refusals : Refusals) (r : Answer) : Type 0 where
  -- "First that holds, in this order."
  pub outcome : r.outcome ≡ first refusals
  -- "Each leaves the policy unchanged"
  pub unchanged : (r.outcome ≡ 0 → ⊥) → r.policy ≡ p
  -- "Acceptance is 0, with the new role's number for kind 5 and 0 otherwise."
  pub number : r.number ≡ 0
  pub good : Good p → Good r.policy

promised : (p q : Policy) (refusals : Refusals) → (Good p → first refusals ≡ 0 → Good q)
    → Promised p refusals (answer p (first refusals) q 0)
promised p q refusals f =
    record {
      outcome = answer_outcome p (first refusals) q 0;
      unchanged = (answer-unchanged p (first refusals) q 0).policy;
      number = answer_number p (first refusals) q 0 refl;
      good = λ g. answer_policy Good p (first refusals) q 0 g (f g);
    }

module _ (p : Policy) (o a b : ℕ) where
  pub assign_user_lem : Promised p (assign_rules (user_view p p.tables.assign o a) b) (assign_user p o a b)
  unfolding assign_user user_view
  assign_user_lem =
      promised p _ _ (λ g e.
      let k = assign_known (user_view p p.tables.assign o a) b e in
      let l = ltb-true a _ (and_r _ _ k.known) in
      users_good p g a _ (with_inside _ _ a _ g.sizes.users g.users l b k.role) l)

  pub revoke_user_lem : Promised p (revoke_rules (user_view p p.tables.revoke o a) b) (revoke_user p o a b)
  unfolding revoke_user user_view
  revoke_user_lem =
      promised p _ _ (λ g e.
      let l = ltb-true a _ (and_r _ _ (revoke_known (user_view p p.tables.revoke o a) b e).known) in
      users_good p g a _ (without_inside _ _ a _ g.sizes.users g.users l b) l)

  pub assign_permission_lem : Promised p (assign_rules (permission_view p p.tables.assignp o a) b) (assign_permission p o a b)
  unfolding assign_permission permission_view
  assign_permission_lem =
      promised p _ _ (λ g e.
      let k = assign_known (permission_view p p.tables.assignp o a) b e in
      let l = ltb-true a _ (and_r _ _ k.known) in
      permissions_good p g a _ (with_inside _ _ a _ g.sizes.permissions g.permissions l b k.role) l)

  pub revoke_permission_lem : Promised p (revoke_rules (permission_view p p.tables.revokep o a) b) (revoke_permission p o a b)
  unfolding revoke_permission permission_view
  revoke_permission_lem =
      promised p _ _ (λ g e.
      let l = ltb-true a _ (and_r _ _ (revoke_known (permission_view p p.tables.revokep o a) b e).known) in
      permissions_good p g a _ (without_inside _ _ a _ g.sizes.permissions g.permissions l b) l)
