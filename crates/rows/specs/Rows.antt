-- The tables of the policy file. Document 01, "The policy file":
-- "then five tables, each a count and rows: can-assign, can-revoke, the same two for permissions, can-modify".
-- s is the input, a list of bytes; at is the place of the first byte; roles and admins are the sets in use.
use Rattle.std.specs.Prelude.{ℕ, Bool, List, set, replicate}
use Rattle.sets.specs.Tests.{pick}
use Rattle.ranges.specs.declared.ModifyRow.{ModifyRow}
use Rattle.ranges.specs.Rows.{no_row}
use Rattle.policy.specs.declared.Row.{Row}
use Rattle.policy.specs.declared.Table.{Table}
use Rattle.policy.specs.declared.Ranges.{Ranges}
use Rattle.policy.specs.Build.{empty_row, empty_table, empty_ranges}
use Rattle.number.specs.Run.{Step, go, stop, on_num, on_step, run}
use Rattle.sections.specs.Numbers.{set_at, count_at, member_at}

-- ---- a row

abbrev pub range : ℕ → ℕ → ℕ → ModifyRow
range admin low high = record { admin = record { 0 = admin }; low = record { 0 = low }; high = record { 0 = high } }

abbrev pub row : ModifyRow → ℕ → ℕ → ℕ → Row
row r brackets needed barred =
    record { admin = r.admin; low = r.low; high = r.high; brackets = brackets; needed = needed; barred = barred }

-- "Rows: administrative role, low, high": each is in use
unfoldable pub range_at : List ℕ → ℕ → ℕ → ℕ → Step ModifyRow
range_at s roles admins at =
    on_num (member_at s admins at) (λ admin second. on_num (member_at s roles second) (λ low third. on_num (member_at s roles third) (λ high next.
    go next (range admin low high))))

-- "then for the two can-assign tables needed set, barred set": inside what is in use
unfoldable pub condition_at : List ℕ → ℕ → ModifyRow → ℕ → ℕ → Step Row
condition_at s roles r brackets at =
    on_num (set_at s roles at) (λ needed mid. on_num (set_at s roles mid) (λ barred next. go next (row r brackets needed barred)))

-- "then, except in can-modify, brackets (1 = low included, 2 = high included, added)".
-- assign says whether the row is of one of the two can-assign tables; a can-revoke row needs and bars nothing.
unfoldable pub table_row_at : List ℕ → Bool → ℕ → ℕ → ℕ → Step Row
table_row_at s assign roles admins at =
    on_step (range_at s roles admins at) (λ fourth r. on_num (count_at s 3 fourth) (λ brackets next.
    pick assign (condition_at s roles r brackets next) (go next (row r brackets 0 0))))

-- ---- a table: "64 rows in each table"

abbrev pub table : ℕ → List Row → Table
table count rows = record { count = count; rows = rows }

unfoldable pub row_step : List ℕ → Bool → ℕ → ℕ → ℕ → ℕ → Table → Step Table
row_step s assign roles admins i at t =
    on_step (table_row_at s assign roles admins at) (λ next r. go next (table t.count (set t.rows i r)))

unfoldable pub table_at : List ℕ → Bool → ℕ → ℕ → ℕ → Step Table
table_at s assign roles admins at =
    on_num (count_at s 64 at) (λ n next. run (row_step s assign roles admins) n 0 next (table n (replicate 64 empty_row)))

abbrev pub ranges : ℕ → List ModifyRow → Ranges
ranges count rows = record { count = count; rows = rows }

unfoldable pub range_step : List ℕ → ℕ → ℕ → ℕ → ℕ → Ranges → Step Ranges
range_step s roles admins i at m =
    on_step (range_at s roles admins at) (λ next r. go next (ranges m.count (set m.rows i r)))

unfoldable pub ranges_at : List ℕ → ℕ → ℕ → ℕ → Step Ranges
ranges_at s roles admins at =
    on_num (count_at s 64 at) (λ n next. run (range_step s roles admins) n 0 next (ranges n (replicate 64 no_row)))
