-- Kinds 1 to 4. Document 01, "Order, ranges, tables", "The eight requests" and "Outcome numbers".
use Rattle.std.specs.Prelude.{◌≡◌, Bool, ℕ, eqb, ltb, get_or, Result, Ok, Err}
use Rattle.sets.specs.Tests.{◌and◌, ◌or◌, neg, ◌implies◌}
use Rattle.sets.specs.Sets.{has, all, any, set_of}
use Rattle.order.specs.Order.{senior, reached}
use Rattle.ranges.specs.Ranges.{in_range}
use Rattle.policy.specs.declared.Policy.{Policy}
use Rattle.policy.specs.declared.Row.{Row}
use Rattle.policy.specs.declared.Table.{Table}
use Rattle.policy.specs.declared.Tables.{Tables}
use Rattle.policy.specs.declared.Refusal.{Refusal}
use Rattle.policy.specs.Build.{empty_row, put_roles, with_users, with_permissions}
use Rattle.policy.specs.Outcome.{Answer, number, Refusals, accept, refuse, first, answer}
use Rattle.members.specs.declared.View.{View}

-- "What kinds 1 and 2 look at: the counts of users, roles in use, both orders, the officer's administrative set, user a's roles, and the one
-- table for the kind." A view holds it, for users and for permissions alike:
--   known    the officer and the user or permission have numbers below their counts
--   roles    the roles in use and their order
--   usable   the administrative roles whose rows the officer may use: "the user holds, explicitly, the row's administrative role or a senior of it"
--   mine     the explicit roles of the user or permission
--   needed   the roles that count as held where a row needs one
--   barred   the roles that count as held where a row bars one
--   table    the one table for the kind

-- of a user the roles held and their juniors count: "for each needed role the user is explicitly in it or a senior, and for each barred role
-- is explicitly in neither it nor a senior"
unfoldable pub user_view : Policy → Table → ℕ → ℕ → View
user_view p table o a =
    record {
      known = ltb o p.people.users.count and ltb a p.people.users.count;
      roles = p.orders.roles;
      usable = reached (senior p.orders.admins.juniors) (get_or p.people.offices o 0);
      mine = get_or p.people.users.roles a 0;
      needed = reached (senior p.orders.roles.juniors) (get_or p.people.users.roles a 0);
      barred = reached (senior p.orders.roles.juniors) (get_or p.people.users.roles a 0);
      table = table;
    }

-- "Two policies that agree on these give the same outcome": what kinds 1 and 2 look at is the same in p and q, for officer o and user a. The
-- table for kind 1 is can-assign, for kind 2 can-revoke.
pub record Agree (table : Tables → Table) (p q : Policy) (o a : ℕ) : Type 0 where
  pub count : p.people.users.count ≡ q.people.users.count
  pub used : p.orders.roles.used ≡ q.orders.roles.used
  pub roles : p.orders.roles.juniors ≡ q.orders.roles.juniors
  pub admins : p.orders.admins.juniors ≡ q.orders.admins.juniors
  pub office : get_or p.people.offices o 0 ≡ get_or q.people.offices o 0
  pub mine : get_or p.people.users.roles a 0 ≡ get_or q.people.users.roles a 0
  pub rows : table p.tables ≡ table q.tables

-- "Permissions: for now a needed or barred role is tested on explicit assignment only."
unfoldable pub permission_view : Policy → Table → ℕ → ℕ → View
permission_view p table o a =
    record {
      known = ltb o p.people.users.count and ltb a p.permissions.count;
      roles = p.orders.roles;
      usable = reached (senior p.orders.admins.juniors) (get_or p.people.offices o 0);
      mine = get_or p.permissions.roles a 0;
      needed = get_or p.permissions.roles a 0;
      barred = get_or p.permissions.roles a 0;
      table = table;
    }

-- the row at i of the view's table
abbrev pub row_of : View → ℕ → Row
row_of v i = get_or v.table.rows i empty_row

-- the officer may use the row, and b is in its range
unfoldable pub covers : View → ℕ → Row → Bool
covers v b row =
    has v.usable row.admin.0 and in_range (senior v.roles.juniors) row.low.0 row.high.0 row.brackets b

-- "A user satisfies it if for each needed role the user is explicitly in it or a senior, and for each barred role is explicitly in neither it
-- nor a senior."
unfoldable pub satisfied : View → Row → Bool
satisfied v row =
    all 64 (λ x. (has row.needed x implies has v.needed x) and (has row.barred x implies neg (has v.barred x)))

-- number 2: "officer, user or permission number not below its count, or a role not in use"
unfoldable pub unknown : View → ℕ → Bool
unknown v b = neg (v.known and has v.roles.used b)

-- some row that the officer may use has b in its range; number 3 is that none has
unfoldable pub covered : View → ℕ → Bool
covered v b = any v.table.count (λ i. covers v b (row_of v i))

-- one of them is satisfied; number 4: "such rows exist, none is satisfied"
unfoldable pub granted : View → ℕ → Bool
granted v b = any v.table.count (λ i. covers v b (row_of v i) and satisfied v (row_of v i))

-- kinds 1 and 3; number 5: "nothing to do: already explicitly assigned"
unfoldable pub assign_rules : View → ℕ → Refusals
assign_rules v b =
    refuse (unknown v b) 2
    (refuse (neg (covered v b)) 3
    (refuse (neg (granted v b)) 4
    (refuse (has v.mine b) 5
    accept)))

-- kinds 2 and 4; number 5: "nothing to do: not explicitly assigned"
unfoldable pub revoke_rules : View → ℕ → Refusals
revoke_rules v b =
    refuse (unknown v b) 2
    (refuse (neg (covered v b)) 3
    (refuse (neg (has v.mine b)) 5
    accept))

-- the explicit roles after: b is put in, or taken out. "Kinds 2 and 4 touch explicit assignment only (weak revocation)."
unfoldable pub with_role : ℕ → ℕ → ℕ
with_role mine b = set_of 64 (λ x. eqb x b or has mine x)

unfoldable pub without_role : ℕ → ℕ → ℕ
without_role mine b = set_of 64 (λ x. has mine x and neg (eqb x b))

-- what kinds 1 and 3, and kinds 2 and 4, make of the explicit roles of a user or permission: those after, or the first refusal
abbrev pub Becomes : Refusals → ℕ → Result ℕ Refusal → Type 0
Becomes rules after (Ok roles) = (first rules ≡ 0) × (roles ≡ after)
Becomes rules after (Err r) = number r ≡ first rules

-- kind 1: "put user a in role b"
unfoldable pub assign_user : Policy → ℕ → ℕ → ℕ → Answer
assign_user p o a b =
    answer p (first (assign_rules (user_view p p.tables.assign o a) b))
    (with_users p (put_roles p.people.users a (with_role (get_or p.people.users.roles a 0) b))) 0

-- kind 2: "take user a out of role b"
unfoldable pub revoke_user : Policy → ℕ → ℕ → ℕ → Answer
revoke_user p o a b =
    answer p (first (revoke_rules (user_view p p.tables.revoke o a) b))
    (with_users p (put_roles p.people.users a (without_role (get_or p.people.users.roles a 0) b))) 0

-- kinds 3 and 4: "the same for permission a, own two tables"
unfoldable pub assign_permission : Policy → ℕ → ℕ → ℕ → Answer
assign_permission p o a b =
    answer p (first (assign_rules (permission_view p p.tables.assignp o a) b))
    (with_permissions p (put_roles p.permissions a (with_role (get_or p.permissions.roles a 0) b))) 0

unfoldable pub revoke_permission : Policy → ℕ → ℕ → ℕ → Answer
revoke_permission p o a b =
    answer p (first (revoke_rules (permission_view p p.tables.revokep o a) b))
    (with_permissions p (put_roles p.permissions a (without_role (get_or p.permissions.roles a 0) b))) 0
