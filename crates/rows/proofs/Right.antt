-- What a table is that was read: its rows name what is in use, its count is within its size, and nothing stands past it.
-- Assumes nothing.
use Prim.Native.Nat.{ℕ, ◌+◌, ◌<◌, ◌≤◌}
use mathlib.Core.Path.{◌≡◌, refl}
use mathlib.Core.Bool.{Bool, true, false}
use mathlib.Core.List.{List}
use native.Mathlib.Omega.{arith}
use borrow.Author.Tests.{ltb-true, ltb-false}
use lib.Dec.{ltb}
use lib.ListN.{get_or, set, replicate}
use Rattle.sets.specs.Tests.{pick}
use Rattle.sets.specs.Sets.{has}
use Rattle.sets.proofs.Tests.{by_test, clash}
use Rattle.sets.proofs.Builders.{subset_empty}
use Rattle.ranges.specs.declared.ModifyRow.{ModifyRow}
use Rattle.ranges.specs.Rows.{no_row}
use Rattle.policy.specs.declared.Row.{Row}
use Rattle.policy.specs.declared.Table.{Table}
use Rattle.policy.specs.declared.Ranges.{Ranges}
use Rattle.policy.specs.Build.{empty_row}
use Rattle.policy.specs.Good.{GoodRow, GoodTable, Unconditional, GoodRanges}
use Rattle.number.specs.Run.{go}
use Rattle.number.proofs.Runs.{on_num_lem, on_step_lem}
use Rattle.sections.specs.Numbers.{set_at, count_at, member_at}
use Rattle.sections.proofs.Laws.{count_most, member_of}
use Rattle.sections.proofs.Filled.{run-all, Filled, filled_none, filled-set}
use Rattle.sections.proofs.Right.{set_in}
use Rattle.rows.specs.Rows.{range, row, range_at, condition_at, table_row_at, table, row_step, table_at, ranges, range_step, ranges_at}

-- ---- a range: what it names is in use
record RangeRight (roles admins : ℕ) (r : ModifyRow) : Type 0 where
  admin : has admins r.admin.0 ≡ true
  low : has roles r.low.0 ≡ true
  high : has roles r.high.0 ≡ true

module _ (s : List ℕ) (roles admins : ℕ) where
  range_right : (at : ℕ) {e : ℕ} {r : ModifyRow} → range_at s roles admins at ≡ go e r → RangeRight roles admins r
  unfolding range_at
  range_right at {e} {r} q =
      let a = on_num_lem (member_at s admins at) _ q in
      let l = on_num_lem (member_at s roles a.1) _ a.3 in
      let h = on_num_lem (member_at s roles l.1) _ l.3 in
      let z : range a.0 l.0 h.0 ≡ r = cc h.3 in
      rw (← z) (record { admin = member_of s admins at a.2; low = member_of s roles a.1 l.2; high = member_of s roles l.1 h.2 })

  record Ranged (n i : ℕ) (m : Ranges) : Type 0 where
    count_is : m.count ≡ n
    rows_are : Filled no_row (λ j r. RangeRight roles admins r) 64 i m.rows

  range_keeps : (n : ℕ) → n ≤ 64 → (i at : ℕ) (m : Ranges) (next : ℕ) (b : Ranges) → i < n → Ranged n i m
      → range_step s roles admins i at m ≡ go next b → Ranged n (i + 1) b
  unfolding range_step
  range_keeps n most i at m next b h k q =
      let a = on_step_lem (range_at s roles admins at) _ q in
      let z : ranges m.count (set m.rows i a.1) ≡ b = cc a.3 in
      rw (← z) (record { count_is = k.count_is; rows_are = filled-set k.rows_are (omega arith) (range_right at a.2) })

-- ---- the can-modify table
pub record RangesRight (roles admins : ℕ) (m : Ranges) : Type 0 where
  pub size : m.count ≤ 64
  pub rows : GoodRanges roles admins m

pub ranges_right : (s : List ℕ) (roles admins at : ℕ) {e : ℕ} {m : Ranges} → ranges_at s roles admins at ≡ go e m → RangesRight roles admins m
unfolding ranges_at
ranges_right s roles admins at {e} {m} q =
    let c = on_num_lem (count_at s 64 at) _ q in
    let most = count_most s 64 at c.2 in
    let k =
    run-all (range_step s roles admins) (Ranged s roles admins c.0) c.0 (range_keeps s roles admins c.0 most) c.1
    (ranges c.0 (replicate 64 no_row)) e m (record { count_is = refl; rows_are = filled_none }) c.3
    in
    record {
      size = omega (arith, k.count_is);
      rows = record {
        admin = λ i h. (k.rows_are.done i (omega (arith, k.count_is))).admin;
        low = λ i h. (k.rows_are.done i (omega (arith, k.count_is))).low;
        high = λ i h. (k.rows_are.done i (omega (arith, k.count_is))).high;
        rest = λ i h. k.rows_are.rest i (omega (arith, k.count_is));
        long = k.rows_are.long;
      };
    }

-- ---- a row: one that is not of a can-assign table needs and bars nothing
record Plain (r : Row) : Type 0 where
  needed : r.needed ≡ 0
  barred : r.barred ≡ 0

record RowRight (assign : Bool) (roles admins : ℕ) (r : Row) : Type 0 where
  good : GoodRow roles admins r
  plain : assign ≡ false → Plain r

module _ (s : List ℕ) (assign : Bool) (roles admins : ℕ) where
  row_right : (at : ℕ) {e : ℕ} {r : Row} → table_row_at s assign roles admins at ≡ go e r → RowRight assign roles admins r
  unfolding table_row_at condition_at
  row_right at {e} {r} q =
      let f = on_step_lem (range_at s roles admins at) _ q in
      let b = on_num_lem (count_at s 3 f.0) _ f.3 in
      by assign refl f.1 (range_right s roles admins at f.2) b.0 b.1 (count_most s 3 f.0 b.2) b.3
    where
      by : (t : Bool) → assign ≡ t → (x : ModifyRow) → RangeRight roles admins x → (brackets next : ℕ) → brackets ≤ 3
          → pick t (condition_at s roles x brackets next) (go next (row x brackets 0 0)) ≡ go e r → RowRight assign roles admins r
      by true t x k brackets next l q =
          let n = on_num_lem (set_at s roles next) _ q in
          let z = on_num_lem (set_at s roles n.1) _ n.3 in
          let y : row x brackets n.0 z.0 ≡ r = cc z.3 in
          let needed = set_in s roles next n.2 in
          let barred = set_in s roles n.1 z.2 in
          rw (← y)
          (record {
            good = record {
              admin = k.admin;
              low = k.low;
              high = k.high;
              brackets = omega arith;
              needed = needed.inner;
              barred = barred.inner;
              needed_small = needed.small;
              barred_small = barred.small;
            };
            plain = λ u. clash t u;
          })
      by false t x k brackets next l q =
          let y : row x brackets 0 0 ≡ r = cc in
          rw (← y)
          (record {
            good = record {
              admin = k.admin;
              low = k.low;
              high = k.high;
              brackets = omega arith;
              needed = subset_empty 64 roles;
              barred = subset_empty 64 roles;
              needed_small = omega arith;
              barred_small = omega arith;
            };
            plain = λ u. record { needed = refl; barred = refl };
          })

  record Tabled (n i : ℕ) (t : Table) : Type 0 where
    count_is : t.count ≡ n
    rows_are : Filled empty_row (λ j r. RowRight assign roles admins r) 64 i t.rows

  row_keeps : (n : ℕ) → n ≤ 64 → (i at : ℕ) (t : Table) (next : ℕ) (b : Table) → i < n → Tabled n i t
      → row_step s assign roles admins i at t ≡ go next b → Tabled n (i + 1) b
  unfolding row_step
  row_keeps n most i at t next b h k q =
      let a = on_step_lem (table_row_at s assign roles admins at) _ q in
      let z : table t.count (set t.rows i a.1) ≡ b = cc a.3 in
      rw (← z) (record { count_is = k.count_is; rows_are = filled-set k.rows_are (omega arith) (row_right at a.2) })

-- ---- a table of rows
pub record TableRight (assign : Bool) (roles admins : ℕ) (t : Table) : Type 0 where
  pub size : t.count ≤ 64
  pub rows : GoodTable roles admins t
  pub plain : assign ≡ false → Unconditional t

pub table_right : (s : List ℕ) (assign : Bool) (roles admins at : ℕ) {e : ℕ} {t : Table}
    → table_at s assign roles admins at ≡ go e t → TableRight assign roles admins t
unfolding table_at
table_right s assign roles admins at {e} {t} q =
    let c = on_num_lem (count_at s 64 at) _ q in
    let most = count_most s 64 at c.2 in
    let k =
    run-all (row_step s assign roles admins) (Tabled s assign roles admins c.0) c.0 (row_keeps s assign roles admins c.0 most) c.1
    (table c.0 (replicate 64 empty_row)) e t (record { count_is = refl; rows_are = filled_none }) c.3
    in
    let bare : assign ≡ false → (i : ℕ) → Plain (get_or t.rows i empty_row) =
    λ u i. by_test (ltb i c.0) (λ b. (k.rows_are.done i (ltb-true i c.0 b)).plain u)
    (λ b. rw (k.rows_are.rest i (ltb-false i c.0 b)) (record { needed = refl; barred = refl }))
    in
    record {
      size = omega (arith, k.count_is);
      rows = record {
        rows = λ i h. (k.rows_are.done i (omega (arith, k.count_is))).good;
        rest = λ i h. k.rows_are.rest i (omega (arith, k.count_is));
        long = k.rows_are.long;
      };
      plain = λ u. record { needed = λ i. (bare u i).needed; barred = λ i. (bare u i).barred };
    }
