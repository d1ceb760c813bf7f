-- When a table is refused: exactly if its count or a number of one of its rows fails, and which.
-- Assumes nothing.
use Prim.Native.Nat.{ℕ}
use mathlib.Core.Path.{◌≡◌, refl}
use mathlib.Core.Logic.{◌↔◌}
use mathlib.Core.Bool.{Bool, true, false}
use mathlib.Core.List.{List}
use Rattle.sets.specs.Tests.{pick}
use Rattle.ranges.specs.declared.ModifyRow.{ModifyRow}
use Rattle.policy.specs.declared.Table.{Table}
use Rattle.policy.specs.declared.Ranges.{Ranges}
use Rattle.number.specs.Run.{go, stop}
use Rattle.number.specs.Number.{Value}
use Rattle.sections.specs.Numbers.{count_at}
use Rattle.rows.specs.Rows.{row, range_at, condition_at, table_row_at, row_step, table_at, range_step, ranges_at}
use Rattle.trips.specs.Refusals.{RangeFails, admin, low, high, RangesFails}
use Rattle.trips.specs.Refusals.{RowFails, ends, brackets, needed, barred, TableFails}
use Rattle.trips.proofs.Stops.{not_stopped, num_stopped, step_stopped}
use Rattle.trips.proofs.FailsNumbers.{set-refused, count-refused, member_refused}
use Rattle.trips.proofs.FailsSections.{each_refused}

module _ (s : List ℕ) (roles admins : ℕ) {c p : ℕ} where
  -- ---- a can-modify row, and the first numbers of any other
  module _ (at : ℕ) where
    range_fails : range_at s roles admins at ≡ stop c p → RangeFails s roles admins at c p
    unfolding range_at
    range_fails q =
        num_stopped _ _ q (λ r. admin ((member_refused s _ _).0 r)) (λ x second v q.
        num_stopped _ _ q (λ r. low v ((member_refused s _ _).0 r)) (λ y third w q.
        num_stopped _ _ q (λ r. high v w ((member_refused s _ _).0 r)) (λ z next u q. not_stopped q)))

    range_stops : RangeFails s roles admins at c p → range_at s roles admins at ≡ stop c p
    unfolding range_at
    range_stops (admin f) = let v = (member_refused s _ _).1 f in rw v
    range_stops (low v f) = let w = (member_refused s _ _).1 f in rw (v, w)
    range_stops (high v w f) = let u = (member_refused s _ _).1 f in rw (v, w, u)

  -- ---- the can-modify table
  range-refused : (i at : ℕ) (a : Ranges)
      → (range_step s roles admins i at a ≡ stop c p) ↔ RangeFails s roles admins at c p
  unfolding range_step
  range-refused i at a =
      (λ q. step_stopped _ _ q (range_fails at) (λ next r v q. not_stopped q), λ f. let v = range_stops at f in rw v)

  -- it is refused exactly if its count fails, or a number of a row
  pub ranges-refused : (at : ℕ) → (ranges_at s roles admins at ≡ stop c p) ↔ RangesFails s roles admins at c p
  unfolding ranges_at
  ranges-refused at = each_refused s 64 (range_step s roles admins) _ _ range-refused at

  module _ (assign : Bool) where
    -- ---- any other row
    module _ (at : ℕ) where
      row_fails_lem : table_row_at s assign roles admins at ≡ stop c p → RowFails s assign roles admins at c p
      unfolding table_row_at condition_at
      row_fails_lem q =
          step_stopped _ _ q (λ r. ends (range_fails at r)) (λ fourth r v q.
          num_stopped _ _ q (λ r. brackets v ((count-refused s _ _).0 r)) (λ b fifth w q. by assign refl v w q))
        where
          by : (t : Bool) → assign ≡ t → {fourth fifth b : ℕ} {r : ModifyRow} → range_at s roles admins at ≡ go fourth r
              → count_at s 3 fourth ≡ Value b fifth
              → pick t (condition_at s roles r b fifth) (go fifth (row r b 0 0)) ≡ stop c p
              → RowFails s assign roles admins at c p
          by true t v w q =
              num_stopped _ _ q (λ r. needed t v w ((set-refused s _ _).0 r)) (λ n sixth u q.
              num_stopped _ _ q (λ r. barred t v w u ((set-refused s _ _).0 r)) (λ m next o q. not_stopped q))
          by false t v w q = not_stopped q

      row_stops : RowFails s assign roles admins at c p → table_row_at s assign roles admins at ≡ stop c p
      unfolding table_row_at condition_at
      row_stops (ends f) = let v = range_stops at f in rw v
      row_stops (brackets v f) = let w = (count-refused s _ _).1 f in rw (v, w)
      row_stops (needed t v w f) = let u = (set-refused s _ _).1 f in rw (t, v, w, u)
      row_stops (barred t v w u f) = let o = (set-refused s _ _).1 f in rw (t, v, w, u, o)

    -- ---- any other table
    row_refused : (i at : ℕ) (a : Table)
        → (row_step s assign roles admins i at a ≡ stop c p) ↔ RowFails s assign roles admins at c p
    unfolding row_step
    row_refused i at a =
        (λ q. step_stopped _ _ q (row_fails_lem at) (λ next r v q. not_stopped q), λ f. let v = row_stops at f in rw v)

    -- it is refused exactly if its count fails, or a number of a row
    pub table_at-refused : (at : ℕ)
        → (table_at s assign roles admins at ≡ stop c p) ↔ TableFails s assign roles admins at c p
    unfolding table_at
    table_at-refused at = each_refused s 64 (row_step s assign roles admins) _ _ row_refused at
