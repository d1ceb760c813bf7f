-- Kinds 1 to 4 keep a good policy good: one law for users and permissions alike.
-- Assumes nothing.
use mathlib.Core.Path.{◌≡◌, refl, sym, ap, ◌∙◌, subst}
use mathlib.Core.Logic.{⊎_elim}
use mathlib.Core.Bool.{true}
use mathlib.Core.List.{List}
use Prim.Native.Nat.{ℕ, ◌≤◌, ◌<◌, ◌^◌}
use native.Mathlib.Omega.{arith}
use lib.Dec.{eqb}
use lib.ListN.{get_or, set, length, length-set}
use lib.Seq.{get_or-set_same, get_or-set_other}
use borrow.Author.Tests.{eqb-true, eqb-false}
use Rattle.sets.specs.Tests.{◌and◌, neg}
use Rattle.sets.specs.Sets.{has, subset}
use Rattle.sets.proofs.Tests.{by_test, and_l, and_r, or_cases, neg_false}
use Rattle.sets.proofs.Builders.{set_of_lt, in_set_of, subset_at, subset_of}
use Rattle.sets.proofs.Digits.{has_below}
use Rattle.policy.specs.declared.Policy.{Policy}
use Rattle.policy.specs.Build.{put_roles, with_users, with_permissions}
use Rattle.policy.specs.Good.{Good, GoodSets}
use Rattle.policy.specs.Outcome.{Refusals, first}
use Rattle.members.specs.declared.View.{View}
use Rattle.members.specs.Rules.{unknown, assign_rules, revoke_rules, with_role, without_role}
use Rattle.policy.proofs.Outcomes.{condition, nonzero, passed}

-- ---- a set put in the place of member a
at_set : (P : ℕ → Type 0) (sets : List ℕ) (a s i : ℕ) → a < length sets → P s → P (get_or sets i 0) → P (get_or (set sets a s) i 0)
at_set P sets a s i l new old =
    by_test (eqb i a)
    (λ t. subst (λ (k : ℕ). P (get_or (set sets a s) k 0)) (sym (eqb-true i a t)) (subst P (sym (get_or-set_same sets a s 0 l)) new))
    (λ t. subst P (sym (get_or-set_other sets a i s 0 (eqb-false i a t))) old)

-- a set that a policy may hold: its members are in use
pub record InsideUsed (used s : ℕ) : Type 0 where
  pub inner : subset 64 s used ≡ true
  pub small : s < 2 ^ 64

module _ (used count a : ℕ) (sets : List ℕ) (size : count ≤ 256) (g : GoodSets used count sets) (l : a < count) where
  pub put_good : (s : ℕ) → InsideUsed used s → GoodSets used count (set sets a s)
  put_good s h =
      record {
        inner = λ i m. at_set (λ x. subset 64 x used ≡ true) sets a s i long h.inner (g.inner i m);
        small = λ i. at_set (λ x. x < 2 ^ 64) sets a s i long h.small (g.small i);
        rest = λ i m. get_or-set_other sets a i s 0 (omega arith) ∙ g.rest i m;
        long = length-set sets a s ∙ g.long;
      }
    where
      long : a < length sets
      long = omega (arith, g.long)

  -- the roles after: b, which is in use, is put in, or it is taken out
  pub with_inside : (b : ℕ) → has used b ≡ true → InsideUsed used (with_role (get_or sets a 0) b)
  unfolding with_role
  with_inside b m =
      record {
        inner = subset_of 64 _ used (λ n t. ⊎_elim (λ (e : eqb n b ≡ true). ap (has used) (eqb-true n b e) ∙ m)
            (λ (e : has (get_or sets a 0) n ≡ true). subset_at 64 _ used (g.small a) (g.inner a l) n e) (or_cases _ _ (in_set_of 64 _ n t).1));
        small = set_of_lt 64 _;
      }

  pub without_inside : (b : ℕ) → InsideUsed used (without_role (get_or sets a 0) b)
  unfolding without_role
  without_inside b =
      record {
        inner = subset_of 64 _ used (λ n t. subset_at 64 _ used (g.small a) (g.inner a l) n (and_l _ _ (in_set_of 64 _ n t).1));
        small = set_of_lt 64 _;
      }

-- ---- the whole policy
module _ (p : Policy) (g : Good p) where
  -- one law for users and permissions: whatever sets take the place of theirs, as long as these are good
  roles_good : (users permissions : List ℕ) → GoodSets p.orders.roles.used p.people.users.count users
      → GoodSets p.orders.roles.used p.permissions.count permissions
      → Good (with_permissions (with_users p (record { count = p.people.users.count; roles = users }))
      (record { count = p.permissions.count; roles = permissions }))
  roles_good users permissions u m =
      record {
        sizes = record {
          users = g.sizes.users;
          permissions = g.sizes.permissions;
          assign = g.sizes.assign;
          revoke = g.sizes.revoke;
          assignp = g.sizes.assignp;
          revokep = g.sizes.revokep;
          modify = g.sizes.modify;
        };
        roles = g.roles;
        admins = g.admins;
        users = u;
        offices = g.offices;
        permissions = m;
        assign = g.assign;
        revoke = g.revoke;
        assignp = g.assignp;
        revokep = g.revokep;
        revoke_plain = g.revoke_plain;
        revokep_plain = g.revokep_plain;
        modify = g.modify;
        sound = g.sound;
      }

  module _ (a s : ℕ) (h : InsideUsed p.orders.roles.used s) where
    pub users_good : a < p.people.users.count → Good (with_users p (put_roles p.people.users a s))
    users_good l = roles_good _ _ (put_good _ _ a _ g.sizes.users g.users l s h) g.permissions

    pub permissions_good : a < p.permissions.count → Good (with_permissions p (put_roles p.permissions a s))
    permissions_good l = roles_good _ _ g.users (put_good _ _ a _ g.sizes.permissions g.permissions l s h)

-- ---- both lists of refusals have number 2, so that acceptance says this
pub record ViewKnown (v : View) (b : ℕ) : Type 0 where
  pub known : v.known ≡ true
  pub role : has v.roles.used b ≡ true

module _ (v : View) (b : ℕ) where
  known_by : (r : Refusals) → nonzero r ≡ true → condition 2 r ≡ unknown v b → first r ≡ 0 → ViewKnown v b
  unfolding unknown
  known_by r z q e =
      let t = neg_false _ (sym q ∙ passed 2 r z e) in
      record { known = and_l _ _ t; role = and_r _ _ t }

  pub assign_known : first (assign_rules v b) ≡ 0 → ViewKnown v b
  unfolding assign_rules condition nonzero ◌and◌ neg
  assign_known e = known_by (assign_rules v b) refl refl e

  pub revoke_known : first (revoke_rules v b) ≡ 0 → ViewKnown v b
  unfolding revoke_rules condition nonzero ◌and◌ neg
  revoke_known e = known_by (revoke_rules v b) refl refl e

  -- so the role has a number below 64
  pub assign_below : v.roles.used < 2 ^ 64 → first (assign_rules v b) ≡ 0 → b < 64
  assign_below u e = has_below 64 _ b u (assign_known e).role

  pub revoke_below : v.roles.used < 2 ^ 64 → first (revoke_rules v b) ≡ 0 → b < 64
  revoke_below u e = has_below 64 _ b u (revoke_known e).role
