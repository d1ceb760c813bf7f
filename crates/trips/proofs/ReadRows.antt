-- The first round trip, table by table: a table's bytes, wherever they stand, are read as that table, with the place past them.
-- Assumes nothing.
use Prim.Native.Nat.{ℕ, ◌+◌, ◌^◌, ◌<◌, ◌≤◌}
use mathlib.Core.Path.{◌≡◌, sym, ◌∙◌, ap₂}
use mathlib.Core.Bool.{Bool, true, false}
use mathlib.Core.List.{List, ◌++◌}
use native.Mathlib.Omega.{arith}
use lib.ListN.{length, get_or, length-append}
use Rattle.sets.specs.Tests.{pick}
use Rattle.sets.specs.Sets.{has, subset}
use Rattle.sets.proofs.Tests.{by_test}
use Rattle.sets.proofs.Digits.{has_below}
use Rattle.ranges.specs.declared.ModifyRow.{ModifyRow}
use Rattle.ranges.specs.Rows.{no_row, row_at}
use Rattle.policy.specs.declared.Row.{Row}
use Rattle.policy.specs.declared.Table.{Table}
use Rattle.policy.specs.declared.Ranges.{Ranges}
use Rattle.policy.specs.Build.{empty_row}
use Rattle.policy.specs.Good.{GoodRow, GoodTable, GoodRanges, Unconditional}
use Rattle.number.specs.Number.{num_bytes}
use Rattle.number.specs.Run.{go}
use Rattle.number.proofs.Parts.{Stands, stands_first, stands_second}
use Rattle.rows.specs.Rows.{row, range_at, condition_at, table_row_at, table, row_step, table_at, ranges, range_step, ranges_at}
use Rattle.rows.proofs.Laws.{row_in, range_in}
use Rattle.layout.specs.Layout.{ends_bytes, condition_bytes, row_bytes, modify_bytes, rows_bytes, ranges_bytes}
use Rattle.layout.proofs.Lengths.{ends_of, row_of, condition_in, condition_out}
use Rattle.trips.proofs.Fill.{filled_to, up_none, up_set, up_all, counted_read}
use Rattle.trips.proofs.ReadSections.{set_read, count_read, member_read}

-- ---- three runs of bytes, one after the other
pub stands_third : {s : List ℕ} {at : ℕ} (a b c : List ℕ) → Stands s at (a ++ b ++ c) → Stands s (at + length a + length b) c
stands_third {s} {at} a b c w =
    let e : at + length (a ++ b) ≡ at + length a + length b = omega (arith, length-append a b) in
    rw e at (stands_second (a ++ b) c w)

-- ---- what a test picks
pick_first : {A : Type 0} {b : Bool} → b ≡ true → (x y : A) → pick b x y ≡ x
pick_first e x y = rw e

pick_second : {A : Type 0} {b : Bool} → b ≡ false → (x y : A) → pick b x y ≡ y
pick_second e x y = rw e

-- a row's administrative role and ends
abbrev ends_of_row : Row → ModifyRow
ends_of_row r = record { admin = r.admin; low = r.low; high = r.high }

module _ (s : List ℕ) (roles admins : ℕ) (u : roles < 2 ^ 64) (v : admins < 2 ^ 64) where
  -- ---- a row
  pub ends_read : (at : ℕ) (r : ModifyRow) → has admins r.admin.0 ≡ true → has roles r.low.0 ≡ true → has roles r.high.0 ≡ true
      → Stands s at (ends_bytes r.admin r.low r.high) → range_at s roles admins at ≡ go (at + length (ends_bytes r.admin r.low r.high)) r
  unfolding range_at ends_bytes
  ends_read at r ha hl hh w =
      let a = num_bytes r.admin.0 in
      let l = num_bytes r.low.0 in
      let h = num_bytes r.high.0 in
      let ra = member_read s r.admin.0 (omega (arith, has_below 64 admins r.admin.0 v ha)) (stands_first a l (stands_first (a ++ l) h w)) admins ha in
      let rl = member_read s r.low.0 (omega (arith, has_below 64 roles r.low.0 u hl)) (stands_second a l (stands_first (a ++ l) h w)) roles hl in
      let rh = member_read s r.high.0 (omega (arith, has_below 64 roles r.high.0 u hh)) (stands_third a l h w) roles hh in
      let e : at + length a + length l + length h ≡ at + length (a ++ l ++ h) = omega (arith, ends_of r.admin r.low r.high) in
      rw (ra, rl, rh, e)

  condition_read : (at : ℕ) (f : ModifyRow) (brackets needed barred : ℕ) → needed < 2 ^ 64 → barred < 2 ^ 64
      → subset 64 needed roles ≡ true → subset 64 barred roles ≡ true
      → Stands s at (num_bytes needed ++ num_bytes barred)
      → condition_at s roles f brackets at ≡ go (at + length (num_bytes needed ++ num_bytes barred)) (row f brackets needed barred)
  unfolding condition_at
  condition_read at f brackets needed barred hn hb n b w =
      let x = num_bytes needed in
      let y = num_bytes barred in
      let e : at + length x + length y ≡ at + length (x ++ y) = omega (arith, length-append x y) in
      rw (set_read s needed hn (stands_first x y w) roles n, set_read s barred hb (stands_second x y w) roles b, e)

  module _ (assign : Bool) (r : Row) (g : GoodRow roles admins r) (plain : assign ≡ false → (r.needed ≡ 0) × (r.barred ≡ 0)) where
    -- what follows the brackets
    rest_read : (at : ℕ) → Stands s at (condition_bytes assign r.needed r.barred)
        → pick assign (condition_at s roles (ends_of_row r) r.brackets at) (go at (row (ends_of_row r) r.brackets 0 0))
        ≡ go (at + length (condition_bytes assign r.needed r.barred)) r
    rest_read at w =
        by_test assign
        (λ t.
        let c = condition_in r.needed r.barred t in
        pick_first t _ _
        ∙ condition_read at (ends_of_row r) r.brackets r.needed r.barred g.needed_small g.barred_small g.needed g.barred (rw c at w) ∙ rw c)
        (λ t.
        let c = condition_out r.needed r.barred t in
        let e : at + 0 ≡ at = omega arith in
        let same : row (ends_of_row r) r.brackets 0 0 ≡ r = ap₂ (λ n b. row (ends_of_row r) r.brackets n b) (sym (plain t).0) (sym (plain t).1) in
        pick_second t _ _ ∙ rw (c, e, same))

    pub row_read_lem : (at : ℕ) → Stands s at (row_bytes assign r) → table_row_at s assign roles admins at ≡ go (at + length (row_bytes assign r)) r
    unfolding table_row_at row_bytes
    row_read_lem at w =
        let a = ends_bytes r.admin r.low r.high in
        let b = num_bytes r.brackets in
        let c = condition_bytes assign r.needed r.barred in
        let first = ends_read at (ends_of_row r) g.admin g.low g.high (stands_first a b (stands_first (a ++ b) c w)) in
        let second = count_read s r.brackets (omega (arith, g.brackets)) (stands_second a b (stands_first (a ++ b) c w)) 3 (omega (arith, g.brackets)) in
        let e : at + length a + length b + length c ≡ at + length (a ++ b ++ c) = omega (arith, row_of assign r) in
        rw (first, second) (rest_read (at + length a + length b) (stands_third a b c w) ∙ rw e)

  -- ---- a table of rows, which need and bar nothing where they are not of a can-assign table
  module _ (assign : Bool) (t : Table) (size : t.count ≤ 64) (g : GoodTable roles admins t) (plain : assign ≡ false → Unconditional t) where
    table_state : ℕ → Table
    table_state i = table t.count (filled_to empty_row t.rows i)

    row_bytes_lem : ℕ → List ℕ
    row_bytes_lem i = row_bytes assign (get_or t.rows i empty_row)

    row_reads : (i at : ℕ) → i < t.count → Stands s at (row_bytes_lem i)
        → row_step s assign roles admins i at (table_state i) ≡ go (at + length (row_bytes_lem i)) (table_state (i + 1))
    unfolding table_state row_bytes_lem
    row_reads i at h w =
        row_in s assign roles admins i at (table_state i)
        (row_read_lem assign (get_or t.rows i empty_row) (g.rows i h) (λ e. ((plain e).needed i, (plain e).barred i)) at w)
        ∙ rw (up_set empty_row t.rows i (omega (arith, g.long)))

    pub rows_read : (at : ℕ) → Stands s at (rows_bytes assign t) → table_at s assign roles admins at ≡ go (at + length (rows_bytes assign t)) t
    unfolding table_at rows_bytes table_state row_bytes_lem
    rows_read at w =
        let e = up_all empty_row t.rows t.count (omega (arith, g.long)) g.rest in
        let b = up_none empty_row t.rows in
        let long = g.long in
        counted_read (row_step s assign roles admins) row_bytes_lem table_state s t.count row_reads 64 (λ n. table n _) at size (omega arith)
        (rw (b, long)) w ∙ rw e

  -- ---- the can-modify table
  module _ (m : Ranges) (size : m.count ≤ 64) (g : GoodRanges roles admins m) where
    ranges_state : ℕ → Ranges
    ranges_state i = ranges m.count (filled_to no_row m.rows i)

    range_bytes : ℕ → List ℕ
    range_bytes i = modify_bytes (row_at m.rows i)

    range_reads : (i at : ℕ) → i < m.count → Stands s at (range_bytes i)
        → range_step s roles admins i at (ranges_state i) ≡ go (at + length (range_bytes i)) (ranges_state (i + 1))
    unfolding ranges_state range_bytes modify_bytes
    range_reads i at h w =
        range_in s roles admins i at (ranges_state i) (ends_read at (row_at m.rows i) (g.admin i h) (g.low i h) (g.high i h) w)
        ∙ rw (up_set no_row m.rows i (omega (arith, g.long)))

    pub ranges_read_lem : (at : ℕ) → Stands s at (ranges_bytes m) → ranges_at s roles admins at ≡ go (at + length (ranges_bytes m)) m
    unfolding ranges_at ranges_bytes ranges_state range_bytes
    ranges_read_lem at w =
        let e = up_all no_row m.rows m.count (omega (arith, g.long)) g.rest in
        let b = up_none no_row m.rows in
        let long = g.long in
        counted_read (range_step s roles admins) range_bytes ranges_state s m.count range_reads 64 (λ n. ranges n _) at size (omega arith)
        (rw (b, long)) w ∙ rw e
