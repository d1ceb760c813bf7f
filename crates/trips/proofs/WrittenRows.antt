-- The second round trip, table by table: a table that was read has exactly the bytes that it was read from.
-- Assumes nothing.
use Prim.Native.Nat.{ℕ, ◌<◌, ◌≤◌}
use mathlib.Core.Path.{◌≡◌, refl, ◌∙◌, ap}
use mathlib.Core.Bool.{Bool, true, false}
use mathlib.Core.List.{List, ◌++◌}
use native.Mathlib.Omega.{arith}
use lib.ListN.{length, get_or, set, replicate, length-set, length-replicate}
use lib.Seq.{get_or-set_same, get_or-set_other}
use Rattle.sets.specs.Tests.{pick}
use Rattle.ranges.specs.declared.ModifyRow.{ModifyRow}
use Rattle.ranges.specs.Rows.{no_row, row_at}
use Rattle.policy.specs.declared.Row.{Row}
use Rattle.policy.specs.declared.Table.{Table}
use Rattle.policy.specs.declared.Ranges.{Ranges}
use Rattle.policy.specs.Build.{empty_row}
use Rattle.number.specs.Number.{num_bytes}
use Rattle.number.specs.Run.{go}
use Rattle.number.specs.Number.{Value}
use Rattle.number.proofs.Runs.{on_num_lem, on_step_lem}
use Rattle.number.proofs.RunTrip.{Stepped}
use Rattle.sections.specs.Numbers.{set_at, count_at, member_at}
use Rattle.rows.specs.Rows.{range, row, range_at, condition_at, table_row_at, table, row_step, table_at, ranges, range_step, ranges_at}
use Rattle.layout.specs.Layout.{ends_bytes, row_bytes, modify_bytes, rows_bytes, ranges_bytes}
use Rattle.layout.proofs.Lengths.{condition_in, condition_out}
use Rattle.trips.proofs.Exact.{Exact, exact_none, exact_next, set_exact, count_exact, member_exact, counted_exact}

module _ (s : List ℕ) (small : (k : ℕ) → get_or s k 0 < 256) (roles admins : ℕ) where
  -- ---- a row
  ends_exact : (at : ℕ) {e : ℕ} {r : ModifyRow} → range_at s roles admins at ≡ go e r → Exact s at e (ends_bytes r.admin r.low r.high)
  unfolding range_at ends_bytes
  ends_exact at {e} {r} q =
      let a = on_num_lem (member_at s admins at) _ q in
      let l = on_num_lem (member_at s roles a.1) _ a.3 in
      let h = on_num_lem (member_at s roles l.1) _ l.3 in
      done a.0 a.1 l.0 l.1 h.0 h.1 a.2 l.2 h.2 h.3
    where
      done : (admin second low third high past : ℕ) → member_at s admins at ≡ Value admin second → member_at s roles second ≡ Value low third
          → member_at s roles third ≡ Value high past → go past (range admin low high) ≡ go e r → Exact s at e (ends_bytes r.admin r.low r.high)
      done admin second low third high past va vl vh t =
          let z : range admin low high ≡ r = cc in
          let y : past ≡ e = cc in
          rw (← z, ← y) (exact_next (exact_next (member_exact s small admins va) (member_exact s small roles vl)) (member_exact s small roles vh))

  row_exact : (assign : Bool) (at : ℕ) {e : ℕ} {r : Row} → table_row_at s assign roles admins at ≡ go e r → Exact s at e (row_bytes assign r)
  unfolding table_row_at condition_at row_bytes
  row_exact assign at {e} {r} q =
      let f = on_step_lem (range_at s roles admins at) _ q in
      let b = on_num_lem (count_at s 3 f.0) _ f.3 in
      by assign refl f.0 f.1 b.0 b.1 (exact_next (ends_exact at f.2) (count_exact s small 3 b.2)) b.3
    where
      by : (t : Bool) → assign ≡ t → (fourth : ℕ) (x : ModifyRow) (brackets next : ℕ)
          → Exact s at next (ends_bytes x.admin x.low x.high ++ num_bytes brackets)
          → pick t (condition_at s roles x brackets next) (go next (row x brackets 0 0)) ≡ go e r → Exact s at e (row_bytes assign r)
      by true t fourth x brackets next k q =
          let n = on_num_lem (set_at s roles next) _ q in
          let z = on_num_lem (set_at s roles n.1) _ n.3 in
          done n.0 n.1 z.0 z.1 n.2 z.2 z.3
        where
          done : (needed mid barred past : ℕ) → set_at s roles next ≡ Value needed mid → set_at s roles mid ≡ Value barred past
              → go past (row x brackets needed barred) ≡ go e r → Exact s at e (row_bytes assign r)
          done needed mid barred past vn vb u =
              let z : row x brackets needed barred ≡ r = cc in
              let y : past ≡ e = cc in
              let c = condition_in needed barred t in
              rw (← z, ← y) (exact_next k (rw c (exact_next (set_exact s small roles vn) (set_exact s small roles vb))))
      by false t fourth x brackets next k q =
          let z : row x brackets 0 0 ≡ r = cc in
          let y : next ≡ e = cc in
          let c = condition_out 0 0 t in
          rw (← z, ← y) (exact_next k (rw c (exact_none s next k.within)))

  -- ---- a table of rows
  record TableOk (n : ℕ) (t : Table) : Type 0 where
    count_is : t.count ≡ n
    long : length t.rows ≡ 64

  row_bytes_lem : Bool → Table → ℕ → List ℕ
  row_bytes_lem assign t i = row_bytes assign (get_or t.rows i empty_row)

  row_step_lem : (assign : Bool) (n : ℕ) → n ≤ 64 → (i at : ℕ) (t : Table) (next : ℕ) (b : Table) → i < n → at ≤ length s → TableOk n t
      → row_step s assign roles admins i at t ≡ go next b → Stepped (TableOk n) (row_bytes_lem assign) s i at t next b
  unfolding row_step row_bytes_lem
  row_step_lem assign n most i at t next b h l k q = let a = on_step_lem (table_row_at s assign roles admins at) _ q in done a.0 a.1 a.2 a.3
    where
      done : (past : ℕ) (r : Row) → table_row_at s assign roles admins at ≡ go past r → go past (table t.count (set t.rows i r)) ≡ go next b
          → Stepped (TableOk n) (row_bytes_lem assign) s i at t next b
      done past r v u =
          let a = row_exact assign at v in
          let z : table t.count (set t.rows i r) ≡ b = cc in
          let y : past ≡ next = cc in
          rw (← z, ← y)
          (record {
            ok = record { count_is = k.count_is; long = length-set t.rows i r ∙ k.long };
            onward = a.onward;
            within = a.within;
            bytes = ap (row_bytes assign) (get_or-set_same t.rows i r empty_row (omega (arith, k.long))) ∙ a.bytes;
            stays = λ j d. ap (row_bytes assign) (get_or-set_other t.rows i j r empty_row (omega arith));
          })

  pub rows_exact : (assign : Bool) (at : ℕ) {e : ℕ} {t : Table} → table_at s assign roles admins at ≡ go e t → Exact s at e (rows_bytes assign t)
  unfolding table_at rows_bytes row_bytes_lem
  rows_exact assign at q =
      counted_exact s small (row_step s assign roles admins) TableOk (row_bytes_lem assign) (λ t. t.count) 64 (λ n. table n (replicate 64 empty_row))
      (λ n. record { count_is = refl; long = length-replicate 64 empty_row }) (λ n t k. k.count_is) (row_step_lem assign) at q

  -- ---- the can-modify table
  record RangesOk (n : ℕ) (m : Ranges) : Type 0 where
    count_is : m.count ≡ n
    long : length m.rows ≡ 64

  range_bytes : Ranges → ℕ → List ℕ
  range_bytes m i = modify_bytes (row_at m.rows i)

  range_step_lem : (n : ℕ) → n ≤ 64 → (i at : ℕ) (m : Ranges) (next : ℕ) (b : Ranges) → i < n → at ≤ length s → RangesOk n m
      → range_step s roles admins i at m ≡ go next b → Stepped (RangesOk n) range_bytes s i at m next b
  unfolding range_step range_bytes modify_bytes
  range_step_lem n most i at m next b h l k q = let a = on_step_lem (range_at s roles admins at) _ q in done a.0 a.1 a.2 a.3
    where
      done : (past : ℕ) (r : ModifyRow) → range_at s roles admins at ≡ go past r → go past (ranges m.count (set m.rows i r)) ≡ go next b
          → Stepped (RangesOk n) range_bytes s i at m next b
      done past r v u =
          let a = ends_exact at v in
          let z : ranges m.count (set m.rows i r) ≡ b = cc in
          let y : past ≡ next = cc in
          rw (← z, ← y)
          (record {
            ok = record { count_is = k.count_is; long = length-set m.rows i r ∙ k.long };
            onward = a.onward;
            within = a.within;
            bytes = ap modify_bytes (get_or-set_same m.rows i r no_row (omega (arith, k.long))) ∙ a.bytes;
            stays = λ j d. ap modify_bytes (get_or-set_other m.rows i j r no_row (omega arith));
          })

  pub ranges_exact : (at : ℕ) {e : ℕ} {m : Ranges} → ranges_at s roles admins at ≡ go e m → Exact s at e (ranges_bytes m)
  unfolding ranges_at ranges_bytes range_bytes
  ranges_exact at q =
      counted_exact s small (range_step s roles admins) RangesOk range_bytes (λ m. m.count) 64 (λ n. ranges n (replicate 64 no_row))
      (λ n. record { count_is = refl; long = length-replicate 64 no_row }) (λ n m k. k.count_is) range_step_lem at q
