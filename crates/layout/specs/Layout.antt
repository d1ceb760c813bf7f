-- The bytes of a policy. Document 01, "The policy file"; numbers are those of crate number, and "A set is a number with bit n for member n."
use Rattle.std.specs.Prelude.{ℕ, ◌≤◌, Bool, true, false, List, [], ◌++◌, eqb, get_or}
use Rattle.sets.specs.Tests.{pick}
use Rattle.sets.specs.Sets.{has}
use Rattle.order.specs.declared.Order.{Order}
use Rattle.ranges.specs.declared.AdminId.{AdminId}
use Rattle.ranges.specs.declared.RoleId.{RoleId}
use Rattle.ranges.specs.declared.ModifyRow.{ModifyRow}
use Rattle.ranges.specs.Rows.{row_at}
use Rattle.policy.specs.declared.Members.{Members}
use Rattle.policy.specs.declared.People.{People}
use Rattle.policy.specs.declared.Row.{Row}
use Rattle.policy.specs.declared.Table.{Table}
use Rattle.policy.specs.declared.Tables.{Tables}
use Rattle.policy.specs.declared.Ranges.{Ranges}
use Rattle.policy.specs.declared.Policy.{Policy}
use Rattle.policy.specs.Build.{empty_row}
use Rattle.number.specs.Number.{num_bytes}
use Rattle.number.specs.Run.{each}

-- ---- the two orders

-- "for each role in use, ascending, its set of strict juniors": of role a, and nothing where a is not in use
unfoldable pub juniors_bytes : ℕ → ℕ → ℕ → List ℕ
juniors_bytes used a juniors = pick (has used a) (num_bytes juniors) []

-- "set of roles; for each role in use, ascending, its set of strict juniors; the same two for administrative roles"
unfoldable pub order_bytes : Order → List ℕ
order_bytes o = num_bytes o.used ++ each (λ a. juniors_bytes o.used a (get_or o.juniors a 0)) 64 0

-- ---- users and permissions

-- "each with role set and administrative set"
unfoldable pub user_bytes : ℕ → ℕ → List ℕ
user_bytes roles office = num_bytes roles ++ num_bytes office

-- "count of users, each with role set and administrative set"
unfoldable pub users_bytes : People → List ℕ
users_bytes p =
    num_bytes p.users.count ++ each (λ i. user_bytes (get_or p.users.roles i 0) (get_or p.offices i 0)) p.users.count 0

-- "count of permissions, each with role set"
unfoldable pub permissions_bytes : Members → List ℕ
permissions_bytes m = num_bytes m.count ++ each (λ i. num_bytes (get_or m.roles i 0)) m.count 0

-- ---- rows

-- "Rows: administrative role, low, high"
unfoldable pub ends_bytes : AdminId → RoleId → RoleId → List ℕ
ends_bytes admin low high = num_bytes admin.0 ++ num_bytes low.0 ++ num_bytes high.0

-- "then for the two can-assign tables needed set, barred set"
unfoldable pub condition_bytes : Bool → ℕ → ℕ → List ℕ
condition_bytes assign needed barred = pick assign (num_bytes needed ++ num_bytes barred) []

-- "Rows: administrative role, low, high; then, except in can-modify, brackets (1 = low included, 2 = high included, added);
-- then for the two can-assign tables needed set, barred set." assign says whether it is a row of one of these two.
unfoldable pub row_bytes : Bool → Row → List ℕ
row_bytes assign row =
    ends_bytes row.admin row.low row.high ++ num_bytes row.brackets ++ condition_bytes assign row.needed row.barred

-- a can-modify row
unfoldable pub modify_bytes : ModifyRow → List ℕ
modify_bytes row = ends_bytes row.admin row.low row.high

-- ---- tables: "each a count and rows"

unfoldable pub rows_bytes : Bool → Table → List ℕ
rows_bytes assign t = num_bytes t.count ++ each (λ i. row_bytes assign (get_or t.rows i empty_row)) t.count 0

unfoldable pub ranges_bytes : Ranges → List ℕ
ranges_bytes m = num_bytes m.count ++ each (λ i. modify_bytes (row_at m.rows i)) m.count 0

-- "five tables, each a count and rows: can-assign, can-revoke, the same two for permissions, can-modify": table k, from 1 to 5
unfoldable pub table_of : Tables → Ranges → ℕ → List ℕ
table_of t m k =
    pick (eqb k 1) (rows_bytes true t.assign)
    (pick (eqb k 2) (rows_bytes false t.revoke)
    (pick (eqb k 3) (rows_bytes true t.assignp)
    (pick (eqb k 4) (rows_bytes false t.revokep)
    (pick (eqb k 5) (ranges_bytes m)
    []))))

-- "64 rows in each table"
pub record TableSizes (t : Tables) (m : Ranges) : Type 0 where
  pub assign : t.assign.count ≤ 64
  pub revoke : t.revoke.count ≤ 64
  pub assignp : t.assignp.count ≤ 64
  pub revokep : t.revokep.count ≤ 64
  pub modify : m.count ≤ 64

-- "each table is written directly after the table before it"
unfoldable pub tables_bytes : Tables → Ranges → List ℕ
tables_bytes t m = table_of t m 1 ++ table_of t m 2 ++ table_of t m 3 ++ table_of t m 4 ++ table_of t m 5

-- ---- the file

-- "In order: the number 1; set of roles; for each role in use, ascending, its set of strict juniors; the same two for administrative roles;
-- count of users, each with role set and administrative set; count of permissions, each with role set"
unfoldable pub sections_bytes : Order → Order → People → Members → List ℕ
sections_bytes roles admins people permissions =
    num_bytes 1 ++ order_bytes roles ++ order_bytes admins ++ users_bytes people ++ permissions_bytes permissions

-- "then five tables"
unfoldable pub policy_bytes : Policy → List ℕ
policy_bytes p =
    sections_bytes p.orders.roles p.orders.admins p.people p.permissions ++ tables_bytes p.tables p.modify

-- table k's bytes, "from its count to its last row"
abbrev pub table_bytes : Policy → ℕ → List ℕ
table_bytes p k = table_of p.tables p.modify k
