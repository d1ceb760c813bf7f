-- "Two policies that agree on these give the same outcome": kinds 1 and 2 look at nothing else.
-- Assumes nothing.
use mathlib.Core.Path.{◌≡◌, sym, ap, ◌∙◌}
use Prim.Native.Nat.{ℕ}
use lib.Dec.{ltb}
use Rattle.sets.specs.Tests.{◌and◌}
use Rattle.order.specs.Order.{senior, reached}
use Rattle.policy.specs.declared.Policy.{Policy}
use Rattle.policy.specs.declared.Table.{Table}
use Rattle.policy.specs.declared.Tables.{Tables}
use Rattle.policy.specs.Outcome.{Refusals, first}
use Rattle.members.specs.declared.View.{View}
use Rattle.members.specs.Rules.{user_view, Agree, assign_rules, revoke_rules, assign_user, revoke_user}
use Rattle.policy.proofs.Outcomes.{answer_outcome}

module _ (table : Tables → Table) (p q : Policy) (o a : ℕ) (h : Agree table p q o a) where
  same_view : user_view p (table p.tables) o a ≡ user_view q (table q.tables) o a
  unfolding user_view
  same_view =
      λ i. record {
        known = ltb o (h.count i) and ltb a (h.count i);
        roles = record { used = h.used i; juniors = h.roles i };
        usable = reached (senior (h.admins i)) (h.office i);
        mine = h.mine i;
        needed = reached (senior (h.roles i)) (h.mine i);
        barred = reached (senior (h.roles i)) (h.mine i);
        table = h.rows i;
      }

  same_first : (rules : View → Refusals) → first (rules (user_view p (table p.tables) o a)) ≡ first (rules (user_view q (table q.tables) o a))
  same_first rules = ap (λ (v : View). first (rules v)) same_view

pub assign_agrees : (p q : Policy) (o a b : ℕ) → Agree (λ t. t.assign) p q o a → (assign_user p o a b).outcome ≡ (assign_user q o a b).outcome
unfolding assign_user
assign_agrees p q o a b h =
    answer_outcome p _ _ 0 ∙ same_first (λ t. t.assign) p q o a h (λ v. assign_rules v b) ∙ sym (answer_outcome q _ _ 0)

pub revoke_agrees : (p q : Policy) (o a b : ℕ) → Agree (λ t. t.revoke) p q o a → (revoke_user p o a b).outcome ≡ (revoke_user q o a b).outcome
unfolding revoke_user
revoke_agrees p q o a b h =
    answer_outcome p _ _ 0 ∙ same_first (λ t. t.revoke) p q o a h (λ v. revoke_rules v b) ∙ sym (answer_outcome q _ _ 0)
