-- The invariant of a policy: what the reader gives, and every request keeps.
use Rattle.std.specs.Prelude.{◌≡◌, true, List, ℕ, ◌≤◌, ◌<◌, ◌^◌, get_or, length}
use Rattle.sets.specs.Sets.{has, subset}
use Rattle.order.specs.declared.Order.{Order}
use Rattle.order.specs.Order.{senior, Strict, InUse}
use Rattle.ranges.specs.Rows.{row_at, no_row, SoundRows}
use Rattle.policy.specs.declared.Row.{Row}
use Rattle.policy.specs.declared.Table.{Table}
use Rattle.policy.specs.declared.Ranges.{Ranges}
use Rattle.policy.specs.declared.Policy.{Policy}
use Rattle.policy.specs.Build.{empty_row}

-- "counts within their sizes": "256 users, 256 permissions, 64 rows in each table"
pub record Sizes (p : Policy) : Type 0 where
  pub users : p.people.users.count ≤ 256
  pub permissions : p.permissions.count ≤ 256
  pub assign : p.tables.assign.count ≤ 64
  pub revoke : p.tables.revoke.count ≤ 64
  pub assignp : p.tables.assignp.count ≤ 64
  pub revokep : p.tables.revokep.count ≤ 64
  pub modify : p.modify.count ≤ 64

-- an order of the numbers below a width: strict, its pairs between numbers in use, no set of juniors for a number that is not in use
pub record GoodOrder (w : ℕ) (o : Order) : Type 0 where
  pub strict : Strict (senior o.juniors)
  pub in_use : InUse o.used (senior o.juniors)
  pub width : o.used < 2 ^ w
  pub rows : length o.juniors ≡ 64
  pub small : (a : ℕ) → get_or o.juniors a 0 < 2 ^ 64

-- a list of sets, each inside what is in use, and those past a count empty
pub record GoodSets (used count : ℕ) (sets : List ℕ) : Type 0 where
  pub inner : (i : ℕ) → i < count → subset 64 (get_or sets i 0) used ≡ true
  pub small : (i : ℕ) → get_or sets i 0 < 2 ^ 64
  pub rest : (i : ℕ) → count ≤ i → get_or sets i 0 ≡ 0
  pub long : length sets ≡ 256

-- a row: its ends and its administrative role in use, brackets below 4, its two sets inside what is in use
pub record GoodRow (used admins : ℕ) (row : Row) : Type 0 where
  pub admin : has admins row.admin.0 ≡ true
  pub low : has used row.low.0 ≡ true
  pub high : has used row.high.0 ≡ true
  pub brackets : row.brackets < 4
  pub needed : subset 64 row.needed used ≡ true
  pub barred : subset 64 row.barred used ≡ true
  pub needed_small : row.needed < 2 ^ 64
  pub barred_small : row.barred < 2 ^ 64

pub record GoodTable (used admins : ℕ) (t : Table) : Type 0 where
  pub rows : (i : ℕ) → i < t.count → GoodRow used admins (get_or t.rows i empty_row)
  pub rest : (i : ℕ) → t.count ≤ i → get_or t.rows i empty_row ≡ empty_row
  pub long : length t.rows ≡ 64

-- a can-revoke table: its rows need and bar nothing
pub record Unconditional (t : Table) : Type 0 where
  pub needed : (i : ℕ) → (get_or t.rows i empty_row).needed ≡ 0
  pub barred : (i : ℕ) → (get_or t.rows i empty_row).barred ≡ 0

pub record GoodRanges (used admins : ℕ) (m : Ranges) : Type 0 where
  pub admin : (i : ℕ) → i < m.count → has admins (row_at m.rows i).admin.0 ≡ true
  pub low : (i : ℕ) → i < m.count → has used (row_at m.rows i).low.0 ≡ true
  pub high : (i : ℕ) → i < m.count → has used (row_at m.rows i).high.0 ≡ true
  pub rest : (i : ℕ) → m.count ≤ i → row_at m.rows i ≡ no_row
  pub long : length m.rows ≡ 64

pub record Good (p : Policy) : Type 0 where
  pub sizes : Sizes p
  -- "64 roles (0 to 63), 16 administrative roles (0 to 15)"
  pub roles : GoodOrder 64 p.orders.roles
  pub admins : GoodOrder 16 p.orders.admins
  pub users : GoodSets p.orders.roles.used p.people.users.count p.people.users.roles
  pub offices : GoodSets p.orders.admins.used p.people.users.count p.people.offices
  pub permissions : GoodSets p.orders.roles.used p.permissions.count p.permissions.roles
  pub assign : GoodTable p.orders.roles.used p.orders.admins.used p.tables.assign
  pub revoke : GoodTable p.orders.roles.used p.orders.admins.used p.tables.revoke
  pub assignp : GoodTable p.orders.roles.used p.orders.admins.used p.tables.assignp
  pub revokep : GoodTable p.orders.roles.used p.orders.admins.used p.tables.revokep
  pub revoke_plain : Unconditional p.tables.revoke
  pub revokep_plain : Unconditional p.tables.revokep
  pub modify : GoodRanges p.orders.roles.used p.orders.admins.used p.modify
  -- every range low junior to high and encapsulated, no two overlapping in part
  pub sound : SoundRows p.orders.roles.used (senior p.orders.roles.juniors) p.modify.count p.modify.rows
