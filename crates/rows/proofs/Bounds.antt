-- Where a table ends, and what its refusals are.
-- Assumes nothing.
use Prim.Native.Nat.{ℕ, ◌<◌, ◌≤◌}
use mathlib.Core.Path.{◌≡◌}
use mathlib.Core.Bool.{Bool, true, false}
use mathlib.Core.List.{List}
use native.Mathlib.Omega.{arith}
use lib.ListN.{length, replicate}
use Rattle.sets.specs.Tests.{pick}
use Rattle.ranges.specs.declared.ModifyRow.{ModifyRow}
use Rattle.ranges.specs.Rows.{no_row}
use Rattle.policy.specs.declared.Table.{Table}
use Rattle.policy.specs.declared.Ranges.{Ranges}
use Rattle.policy.specs.Build.{empty_row}
use Rattle.number.specs.Run.{go}
use Rattle.number.proofs.Runs.{on_num_lem}
use Rattle.sections.specs.Numbers.{count_at}
use Rattle.sections.proofs.Bounds.{Within, within_go, within_num, within_step, within-run, set-within, count-within, member_within}
use Rattle.rows.specs.Rows.{row, range_at, condition_at, table_row_at, table, row_step, table_at, ranges, range_step, ranges_at}

module _ (s : List ℕ) where
  module _ (roles admins : ℕ) where
    range-within : {at : ℕ} → at ≤ length s → Within (length s) at (range_at s roles admins at)
    unfolding range_at
    range-within h =
        within_num _ _ (member_within s h _) (λ admin b q k l. within_num _ _ (member_within s l _) (λ low c r m n.
        within_num _ _ (member_within s n _) (λ high next t o p. within_go (omega arith) p)))

    range_step_lem : (i at : ℕ) (m : Ranges) → at ≤ length s → Within (length s) at (range_step s roles admins i at m)
    unfolding range_step
    range_step_lem i at m h = within_step _ _ (range-within h) (λ next r q k l. within_go (omega arith) l)

    pub ranges-within : {at : ℕ} → at ≤ length s → Within (length s) at (ranges_at s roles admins at)
    unfolding ranges_at
    ranges-within h =
        within_num _ _ (count-within s h _) (λ n next q k l.
        within-run (range_step s roles admins) (length s) range_step_lem n 0 next (ranges n (replicate 64 no_row)) l)

  condition_within : (roles : ℕ) (r : ModifyRow) (brackets : ℕ) {at : ℕ} → at ≤ length s → Within (length s) at (condition_at s roles r brackets at)
  unfolding condition_at
  condition_within roles r brackets h =
      within_num _ _ (set-within s h _) (λ needed mid q k l. within_num _ _ (set-within s l _) (λ barred next t m n. within_go (omega arith) n))

  module _ (assign : Bool) (roles admins : ℕ) where
    row_within : {at : ℕ} → at ≤ length s → Within (length s) at (table_row_at s assign roles admins at)
    unfolding table_row_at
    row_within h =
        within_step _ _ (range-within roles admins h) (λ fourth r q k l. within_num _ _ (count-within s l _) (λ brackets next t m n. by assign r brackets n))
      where
        by : (b : Bool) (r : ModifyRow) (brackets : ℕ) {next : ℕ} → next ≤ length s
            → Within (length s) next (pick b (condition_at s roles r brackets next) (go next (row r brackets 0 0)))
        by true r brackets n = condition_within roles r brackets n
        by false r brackets n = within_go (omega arith) n

    row_step_lem : (i at : ℕ) (t : Table) → at ≤ length s → Within (length s) at (row_step s assign roles admins i at t)
    unfolding row_step
    row_step_lem i at t h = within_step _ _ (row_within h) (λ next r q k l. within_go (omega arith) l)

    pub table-within : {at : ℕ} → at ≤ length s → Within (length s) at (table_at s assign roles admins at)
    unfolding table_at
    table-within h =
        within_num _ _ (count-within s h _) (λ n next q k l.
        within-run (row_step s assign roles admins) (length s) row_step_lem n 0 next (table n (replicate 64 empty_row)) l)

    -- a table has a byte: that of its count
    pub table_some : {at e : ℕ} {t : Table} → at ≤ length s → table_at s assign roles admins at ≡ go e t → at < e
    unfolding table_at
    table_some {at} {e} {t} h q =
        let c = on_num_lem (count_at s 64 at) _ q in
        let k = (count-within s h 64).ends c.0 c.1 c.2 in
        let r = within-run (row_step s assign roles admins) (length s) row_step_lem c.0 0 c.1 (table c.0 (replicate 64 empty_row)) k.1 in
        omega (arith, k.0, r.ends e t c.3)

  pub ranges_some : (roles admins : ℕ) {at e : ℕ} {m : Ranges} → at ≤ length s → ranges_at s roles admins at ≡ go e m → at < e
  unfolding ranges_at
  ranges_some roles admins {at} {e} {m} h q =
      let c = on_num_lem (count_at s 64 at) _ q in
      let k = (count-within s h 64).ends c.0 c.1 c.2 in
      let r = within-run (range_step s roles admins) (length s) (range_step_lem roles admins) c.0 0 c.1 (ranges c.0 (replicate 64 no_row)) k.1 in
      omega (arith, k.0, r.ends e m c.3)
