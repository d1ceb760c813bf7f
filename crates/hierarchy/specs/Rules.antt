-- Kinds 5 to 8. Document 01, "The eight requests" and "Outcome numbers".
use Rattle.std.specs.Prelude.{Bool, ℕ, eqb, ltb, get_or}
use Rattle.sets.specs.Tests.{◌and◌, ◌or◌, neg, pick}
use Rattle.sets.specs.Sets.{has, any, size, lowest_free}
use Rattle.order.specs.declared.Order.{Order}
use Rattle.order.specs.Order.{Relation, senior, at_least, reached, comparable, edge}
use Rattle.order.specs.Effects.{create, remove, insert, cut_edge}
use Rattle.ranges.specs.declared.ModifyRow.{ModifyRow}
use Rattle.ranges.specs.Rows.{row_at, within, unsound}
use Rattle.policy.specs.declared.Policy.{Policy}
use Rattle.policy.specs.declared.Members.{Members}
use Rattle.policy.specs.declared.Row.{Row}
use Rattle.policy.specs.declared.Table.{Table}
use Rattle.policy.specs.declared.Tables.{Tables}
use Rattle.policy.specs.declared.Ranges.{Ranges}
use Rattle.policy.specs.Build.{empty_row, with_roles}
use Rattle.policy.specs.Outcome.{Answer, Refusals, accept, refuse, first, answer}
use Rattle.hierarchy.specs.declared.Site.{Site}

-- What kinds 5 to 8 look at, for an officer:
--   known    the officer's number is below the count of users
--   roles    the roles in use and their order
--   usable   the administrative roles whose rows the officer may use
--   modify   the can-modify rows
unfoldable pub site : Policy → ℕ → Site
site p o =
    record {
      known = ltb o p.people.users.count;
      roles = p.orders.roles;
      usable = reached (senior p.orders.admins.juniors) (get_or p.people.offices o 0);
      modify = p.modify;
    }

-- who is senior to whom
abbrev pub over : Site → Relation
over s = senior s.roles.juniors

-- kind 5: "can-modify, low ≤ b and a ≤ high", where "≤" means equal or junior
unfoldable pub create_in : Relation → ℕ → ℕ → ModifyRow → Bool
create_in f a b row = at_least f b row.low.0 and at_least f row.high.0 a

-- kinds 7 and 8: "can-modify, both strictly inside that one range"
unfoldable pub edge_in : Relation → ℕ → ℕ → ModifyRow → Bool
edge_in f a b row = within f row a and within f row b

-- what the row that the officer needs has, by kind; kind 6: "can-modify, a strictly inside"
unfoldable pub row_allows : ℕ → Relation → ℕ → ℕ → ModifyRow → Bool
row_allows kind f a b row = pick (eqb kind 5) (create_in f a b row) (pick (eqb kind 6) (within f row a) (edge_in f a b row))

-- "The officer needs a row with": some row that the officer may use allows it; number 3 is that none does
unfoldable pub may_modify : Site → ℕ → ℕ → ℕ → Bool
may_modify s kind a b =
    any s.modify.count (λ i. has s.usable (row_at s.modify.rows i).admin.0 and row_allows kind (over s) a b (row_at s.modify.rows i))

-- number 2: the officer's number not below its count, or a role not in use
unfoldable pub unknown_role : Site → ℕ → Bool
unknown_role s a = neg (s.known and has s.roles.used a)

unfoldable pub unknown_pair : Site → ℕ → ℕ → Bool
unknown_pair s a b = neg (s.known and (has s.roles.used a and has s.roles.used b))

-- number 6: "kind 5, 64 roles in use"
unfoldable pub full : Site → Bool
full s = eqb (size 64 s.roles.used) 64

-- "kind 5 takes the lowest free number"
unfoldable pub new_role : Site → ℕ
new_role s = lowest_free 64 s.roles.used

-- number 9: "after the change some authority range would have low not junior to high, would not be encapsulated, or two would overlap in part"
unfoldable pub spoils : Site → Order → Bool
spoils s after = unsound after.used (senior after.juniors) s.modify.count s.modify.rows

-- number 7: "kind 6, a is an end, needed or barred role of any row"
unfoldable pub row_names : Row → ℕ → Bool
row_names row a = eqb a row.low.0 or eqb a row.high.0 or has row.needed a or has row.barred a

unfoldable pub table_names : Table → ℕ → Bool
table_names t a = any t.count (λ i. row_names (get_or t.rows i empty_row) a)

unfoldable pub ranges_name : Ranges → ℕ → Bool
ranges_name m a = any m.count (λ i. eqb a (row_at m.rows i).low.0 or eqb a (row_at m.rows i).high.0)

unfoldable pub named : Tables → Ranges → ℕ → Bool
named t m a =
    table_names t.assign a or table_names t.revoke a or table_names t.assignp a or table_names t.revokep a or ranges_name m a

-- number 8: "kind 6, a user or permission is explicitly in a"
unfoldable pub some_in : Members → ℕ → Bool
some_in m a = any m.count (λ u. has (get_or m.roles u 0) a)

-- 7 or 8: what ties a role to the policy, so that it cannot go
unfoldable pub tied : Tables → Ranges → Members → Members → ℕ → Bool
tied t m users permissions a = named t m a or (some_in users a or some_in permissions a)

abbrev pub tied_in : Policy → ℕ → Bool
tied_in p = tied p.tables p.modify p.people.users p.permissions

-- kind 5; number 5: "kind 5 with a not senior to b"
unfoldable pub create_rules : Site → ℕ → ℕ → Refusals
create_rules s a b =
    refuse (unknown_pair s a b) 2
    (refuse (neg (may_modify s 5 a b)) 3
    (refuse (neg (over s a b)) 5
    (refuse (full s) 6
    (refuse (spoils s (create s.roles (new_role s) a b)) 9
    accept))))

-- kind 6; number 1: "kind 6 with b not 0"; names and members say whether some row names a and whether someone is in a
unfoldable pub delete_rules : Site → Bool → Bool → ℕ → ℕ → Refusals
delete_rules s names members a b =
    refuse (neg (eqb b 0)) 1
    (refuse (unknown_role s a) 2
    (refuse (neg (may_modify s 6 a b)) 3
    (refuse names 7
    (refuse members 8
    accept))))

-- kind 7; number 5: "kind 7 with a, b equal or comparable"
unfoldable pub insert_rules : Site → ℕ → ℕ → Refusals
insert_rules s a b =
    refuse (unknown_pair s a b) 2
    (refuse (neg (may_modify s 7 a b)) 3
    (refuse (comparable (over s) a b) 5
    (refuse (spoils s (insert s.roles a b)) 9
    accept)))

-- kind 8; number 5: "kind 8 with (a, b) no edge"
unfoldable pub cut_rules : Site → ℕ → ℕ → Refusals
cut_rules s a b =
    refuse (unknown_pair s a b) 2
    (refuse (neg (may_modify s 8 a b)) 3
    (refuse (neg (edge (over s) a b)) 5
    (refuse (spoils s (cut_edge s.roles a b)) 9
    accept)))

-- kind 5: "create a role, parent a, child b"; the new role has no members
unfoldable pub create_role : Policy → ℕ → ℕ → ℕ → Answer
create_role p o a b =
    answer p (first (create_rules (site p o) a b)) (with_roles p (create p.orders.roles (new_role (site p o)) a b)) (new_role (site p o))

-- kind 6: "delete role a, b = 0"
unfoldable pub delete_role : Policy → ℕ → ℕ → ℕ → Answer
delete_role p o a b =
    answer p (first (delete_rules (site p o) (named p.tables p.modify a) (some_in p.people.users a or some_in p.permissions a) a b))
    (with_roles p (remove p.orders.roles a)) 0

-- kind 7: "insert edge, a senior to b"
unfoldable pub insert_edge : Policy → ℕ → ℕ → ℕ → Answer
insert_edge p o a b = answer p (first (insert_rules (site p o) a b)) (with_roles p (insert p.orders.roles a b)) 0

-- kind 8: "delete edge (a, b)"
unfoldable pub delete_edge : Policy → ℕ → ℕ → ℕ → Answer
delete_edge p o a b = answer p (first (cut_rules (site p o) a b)) (with_roles p (cut_edge p.orders.roles a b)) 0
