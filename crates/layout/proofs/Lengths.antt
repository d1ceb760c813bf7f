-- How long each part of a file is, and how long at most where the counts are within their sizes.
-- Assumes nothing.
use Prim.Native.Nat.{ℕ, ◌+◌, ◌≤◌}
use mathlib.Core.Path.{◌≡◌, refl, ◌∙◌, ap}
use mathlib.Core.Bool.{Bool, true, false}
use mathlib.Core.List.{[], ◌++◌}
use native.Mathlib.Omega.{arith}
use lib.ListN.{length, get_or, length-append}
use Rattle.sets.specs.Sets.{has}
use Rattle.order.specs.declared.Order.{Order}
use Rattle.ranges.specs.declared.AdminId.{AdminId}
use Rattle.ranges.specs.declared.RoleId.{RoleId}
use Rattle.ranges.specs.Rows.{row_at}
use Rattle.policy.specs.declared.Members.{Members}
use Rattle.policy.specs.declared.People.{People}
use Rattle.policy.specs.declared.Row.{Row}
use Rattle.policy.specs.declared.Table.{Table}
use Rattle.policy.specs.declared.Tables.{Tables}
use Rattle.policy.specs.declared.Ranges.{Ranges}
use Rattle.policy.specs.declared.Policy.{Policy}
use Rattle.policy.specs.Build.{empty_row}
use Rattle.policy.specs.Good.{Sizes}
use Rattle.number.specs.Number.{num_bytes}
use Rattle.number.proofs.Bytes.{bytes_most}
use Rattle.layout.specs.Layout.{juniors_bytes, order_bytes, user_bytes, users_bytes, permissions_bytes, ends_bytes, condition_bytes, row_bytes, modify_bytes, rows_bytes, ranges_bytes, tables_bytes, table_of, sections_bytes, policy_bytes, TableSizes}
use Rattle.layout.proofs.Counts.{counted_most}

-- ---- a set of juniors, in use or not
module _ (used a juniors : ℕ) where
  pub juniors_in : has used a ≡ true → juniors_bytes used a juniors ≡ num_bytes juniors
  unfolding juniors_bytes
  juniors_in h = rw h

  pub juniors_out : has used a ≡ false → juniors_bytes used a juniors ≡ []
  unfolding juniors_bytes
  juniors_out h = rw h

  pub juniors_most : (k : ℕ) → length (num_bytes juniors) ≤ k → length (juniors_bytes used a juniors) ≤ k
  juniors_most k h = go (has used a) refl
    where
      go : (b : Bool) → has used a ≡ b → length (juniors_bytes used a juniors) ≤ k
      go true e = omega (arith, ap length (juniors_in e))
      go false e = omega (arith, ap length (juniors_out e))

pub order_most : (o : Order) → length (order_bytes o) ≤ 650
unfolding order_bytes
order_most o =
    counted_most (num_bytes o.used) (λ a. juniors_bytes o.used a (get_or o.juniors a 0)) 64 64 10 10 (bytes_most o.used) (omega arith)
    (λ i h. juniors_most o.used i (get_or o.juniors i 0) 10 (bytes_most (get_or o.juniors i 0)))

-- ---- users and permissions

pub user_of : (roles office : ℕ) → length (user_bytes roles office) ≡ length (num_bytes roles) + length (num_bytes office)
unfolding user_bytes
user_of roles office = length-append (num_bytes roles) (num_bytes office)

pub users_most : (p : People) → p.users.count ≤ 256 → length (users_bytes p) ≤ 5130
unfolding users_bytes
users_most p l =
    counted_most (num_bytes p.users.count) (λ i. user_bytes (get_or p.users.roles i 0) (get_or p.offices i 0)) p.users.count 256 10 20
    (bytes_most p.users.count) l
    (λ i h. omega (arith, user_of (get_or p.users.roles i 0) (get_or p.offices i 0), bytes_most (get_or p.users.roles i 0), bytes_most (get_or p.offices i 0)))

pub permissions_most : (m : Members) → m.count ≤ 256 → length (permissions_bytes m) ≤ 2570
unfolding permissions_bytes
permissions_most m l =
    counted_most (num_bytes m.count) (λ i. num_bytes (get_or m.roles i 0)) m.count 256 10 10 (bytes_most m.count) l
    (λ i h. bytes_most (get_or m.roles i 0))

-- ---- rows and tables

module _ (admin : AdminId) (low high : RoleId) where
  pub ends_of : length (ends_bytes admin low high) ≡ length (num_bytes admin.0) + length (num_bytes low.0) + length (num_bytes high.0)
  unfolding ends_bytes
  ends_of =
      length-append (num_bytes admin.0 ++ num_bytes low.0) (num_bytes high.0)
      ∙ omega (arith, length-append (num_bytes admin.0) (num_bytes low.0))

  pub ends_most : length (ends_bytes admin low high) ≤ 30
  ends_most = omega (arith, ends_of, bytes_most admin.0, bytes_most low.0, bytes_most high.0)

module _ (needed barred : ℕ) where
  pub condition_in : {assign : Bool} → assign ≡ true → condition_bytes assign needed barred ≡ num_bytes needed ++ num_bytes barred
  unfolding condition_bytes
  condition_in e = rw e

  pub condition_out : {assign : Bool} → assign ≡ false → condition_bytes assign needed barred ≡ []
  unfolding condition_bytes
  condition_out e = rw e

  pub condition_of : (assign : Bool) → assign ≡ true
      → length (condition_bytes assign needed barred) ≡ length (num_bytes needed) + length (num_bytes barred)
  condition_of assign e = ap length (condition_in e) ∙ length-append (num_bytes needed) (num_bytes barred)

  pub condition_none : (assign : Bool) → assign ≡ false → length (condition_bytes assign needed barred) ≡ 0
  condition_none assign e = ap length (condition_out e)

  pub condition_most : (assign : Bool) → length (condition_bytes assign needed barred) ≤ 20
  condition_most true = omega (arith, condition_of true refl, bytes_most needed, bytes_most barred)
  condition_most false = omega (arith, condition_none false refl)

module _ (assign : Bool) (row : Row) where
  pub row_of : length (row_bytes assign row)
      ≡ length (ends_bytes row.admin row.low row.high) + length (num_bytes row.brackets) + length (condition_bytes assign row.needed row.barred)
  unfolding row_bytes
  row_of =
      length-append (ends_bytes row.admin row.low row.high ++ num_bytes row.brackets) (condition_bytes assign row.needed row.barred)
      ∙ omega (arith, length-append (ends_bytes row.admin row.low row.high) (num_bytes row.brackets))

  pub row_most : length (row_bytes assign row) ≤ 60
  row_most =
      omega
      (arith, row_of, ends_most row.admin row.low row.high, bytes_most row.brackets, condition_most row.needed row.barred assign)

pub rows_most : (assign : Bool) (t : Table) → t.count ≤ 64 → length (rows_bytes assign t) ≤ 3850
unfolding rows_bytes
rows_most assign t l =
    counted_most (num_bytes t.count) (λ i. row_bytes assign (get_or t.rows i empty_row)) t.count 64 10 60 (bytes_most t.count) l
    (λ i h. row_most assign (get_or t.rows i empty_row))

pub ranges_most : (m : Ranges) → m.count ≤ 64 → length (ranges_bytes m) ≤ 1930
unfolding ranges_bytes modify_bytes
ranges_most m l =
    counted_most (num_bytes m.count) (λ i. modify_bytes (row_at m.rows i)) m.count 64 10 30 (bytes_most m.count) l
    (λ i h. ends_most (row_at m.rows i).admin (row_at m.rows i).low (row_at m.rows i).high)

-- ---- the five tables
module _ (t : Tables) (m : Ranges) where
  pub tables_of : length (tables_bytes t m)
      ≡ length (rows_bytes true t.assign) + length (rows_bytes false t.revoke)
      + length (rows_bytes true t.assignp) + length (rows_bytes false t.revokep) + length (ranges_bytes m)
  unfolding tables_bytes table_of
  tables_of = simp length-append

  pub tables_most : TableSizes t m → length (tables_bytes t m) ≤ 17330
  tables_most s =
      omega (
        arith,
        tables_of,
        rows_most true t.assign s.assign,
        rows_most false t.revoke s.revoke,
        rows_most true t.assignp s.assignp,
        rows_most false t.revokep s.revokep,
        ranges_most m s.modify,
      )

-- ---- the file
module _ (p : Policy) where
  pub table_sizes : Sizes p → TableSizes p.tables p.modify
  table_sizes s = record { assign = s.assign; revoke = s.revoke; assignp = s.assignp; revokep = s.revokep; modify = s.modify }

  pub policy_of : length (policy_bytes p)
      ≡ length (num_bytes 1) + length (order_bytes p.orders.roles) + length (order_bytes p.orders.admins)
      + length (users_bytes p.people) + length (permissions_bytes p.permissions) + length (tables_bytes p.tables p.modify)
  unfolding policy_bytes sections_bytes
  policy_of = simp length-append

  pub policy_most : Sizes p → length (policy_bytes p) ≤ 26340
  policy_most s =
      omega (
        arith,
        policy_of,
        bytes_most 1,
        order_most p.orders.roles,
        order_most p.orders.admins,
        users_most p.people s.users,
        permissions_most p.permissions s.permissions,
        tables_most p.tables p.modify (table_sizes s),
      )

-- how long each part is, and at most, for sums of them
pub ruleset lengths = (
  user_of,
  ends_of,
  condition_of,
  condition_none,
  row_of,
  tables_of,
  policy_of,
  bytes_most,
  order_most,
  users_most,
  permissions_most,
  ends_most,
  rows_most,
  ranges_most,
  tables_most,
)
