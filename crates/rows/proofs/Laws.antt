-- A table is so many rows, each where the one before it ends, and what is kept of them.
-- Assumes nothing.
use Prim.Native.Nat.{ℕ}
use mathlib.Core.Path.{◌≡◌}
use mathlib.Core.Bool.{Bool}
use mathlib.Core.List.{List}
use lib.ListN.{set, replicate}
use Rattle.std.specs.Prelude.{Result}
use Rattle.ranges.specs.declared.ModifyRow.{ModifyRow}
use Rattle.ranges.specs.Rows.{no_row}
use Rattle.policy.specs.declared.Row.{Row}
use Rattle.policy.specs.declared.Table.{Table}
use Rattle.policy.specs.declared.Ranges.{Ranges}
use Rattle.policy.specs.Build.{empty_row}
use Rattle.number.specs.declared.NumberError.{NumberError}
use Rattle.number.specs.Run.{go, as_step, on_step}
use Rattle.sections.specs.Each.{things_read, put_step, each_at}
use Rattle.sections.proofs.Each.{made_twice, each-read}
use Rattle.rows.specs.Rows.{range_at, table_row_at, table, row_step, table_at, ranges, range_step, ranges_at}

-- ---- a table of rows

module _ (s : List ℕ) (assign : Bool) (roles admins : ℕ) where
  pub row_in : (i at : ℕ) (t : Table) {next : ℕ} {r : Row} → table_row_at s assign roles admins at ≡ go next r
      → row_step s assign roles admins i at t ≡ go next (table t.count (set t.rows i r))
  unfolding row_step
  row_in i at t e = rw e

  row_put : (n i at : ℕ) (l : List Row) → row_step s assign roles admins i at (table n l)
      ≡ on_step (put_step (table_row_at s assign roles admins) i at l) (λ next k. go next (table n k))
  unfolding row_step put_step
  row_put n i at l = made_twice (table_row_at s assign roles admins at) (set l i) (table n)

  pub table-read : (at : ℕ) (r : Result (ℕ × ℕ) NumberError) (k : List Row)
      → things_read r k ≡ each_at s (table_row_at s assign roles admins) at (replicate 64 empty_row)
      → on_step (as_step r) (λ next n. go next (table n k)) ≡ table_at s assign roles admins at
  unfolding table_at
  table-read at r k e =
      each-read (table_row_at s assign roles admins) (row_step s assign roles admins) table row_put s at (replicate 64 empty_row) r k e

-- ---- the table of ranges

module _ (s : List ℕ) (roles admins : ℕ) where
  pub range_in : (i at : ℕ) (m : Ranges) {next : ℕ} {r : ModifyRow} → range_at s roles admins at ≡ go next r
      → range_step s roles admins i at m ≡ go next (ranges m.count (set m.rows i r))
  unfolding range_step
  range_in i at m e = rw e

  range_put : (n i at : ℕ) (l : List ModifyRow) → range_step s roles admins i at (ranges n l)
      ≡ on_step (put_step (range_at s roles admins) i at l) (λ next k. go next (ranges n k))
  unfolding range_step put_step
  range_put n i at l = made_twice (range_at s roles admins at) (set l i) (ranges n)

  pub ranges-read : (at : ℕ) (r : Result (ℕ × ℕ) NumberError) (k : List ModifyRow)
      → things_read r k ≡ each_at s (range_at s roles admins) at (replicate 64 no_row)
      → on_step (as_step r) (λ next n. go next (ranges n k)) ≡ ranges_at s roles admins at
  unfolding ranges_at
  ranges-read at r k e =
      each-read (range_at s roles admins) (range_step s roles admins) ranges range_put s at (replicate 64 no_row) r k e
