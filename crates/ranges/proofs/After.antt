-- The check of all rows after a change: what the loops compare.
--   same_at, same_wider     where a role stands to another as before
--   row_before              what is known of one of the rows
--   ends_kept, members_kept, clear_of    the three parts of a row that is kept
--   stay_begin, stay_turn, stay_end      the ranges that stay, row by row
--   cut_later, cut_found    two ranges that overlap in part, found in their sets
-- Assumes nothing.
use mathlib.Core.Path.{◌≡◌, refl, sym, ap, ◌∙◌}
use mathlib.Core.Bool.{Bool, true, false}
use mathlib.Core.List.{List}
use Prim.Native.Nat.{ℕ, ◌+◌, ◌^◌, ◌≤◌, ◌<◌}
use native.Mathlib.Nat.{not-suc-le-zero, lt_of_lt_of_le}
use native.Mathlib.Numerals.{add-one}
use lib.Dec.{leb, ltb}
use lib.ListN.{length, get_or, take}
use lib.Seq.{get_or-take, length-take-le}
use borrow.Author.Count.{below_more}
use Rattle.sets.specs.Tests.{◌and◌, ◌or◌, neg, ◌iff◌}
use Rattle.sets.specs.Sets.{has, any, Exactly, agreeing}
use Rattle.sets.proofs.Tests.{clash, not_so, and_i, or_fails_l, or_fails_r, neg_false, implies_e, iff_e}
use Rattle.sets.proofs.Digits.{has_empty, has_below}
use Rattle.sets.proofs.Quantifiers.{all_at, any_same}
use Rattle.order.specs.Order.{Relation, senior}
use Rattle.order.specs.Rows.{Above}
use Rattle.ranges.specs.declared.ModifyRow.{ModifyRow}
use Rattle.ranges.specs.Ranges.{overlap_in_part}
use Rattle.ranges.specs.Rows.{row_at, within, overlap}
use Rattle.ranges.specs.After.{SoundBefore, SameAt, SameOutside, RowBefore, EndsStay, RangesStay, RangeSets, cut_from, some_cut}
use Rattle.ranges.proofs.Laws.{overlap_same}
use Rattle.ranges.proofs.Checks.{pairs_once}

-- ---- the roles in which two sets differ
pub one_of_two : (a b : Bool) → ((a and neg b) or (b and neg a)) ≡ neg (a iff b)
unfolding ◌and◌ ◌or◌ neg ◌iff◌
one_of_two true true = refl
one_of_two true false = refl
one_of_two false true = refl
one_of_two false false = refl

no_difference : (a b : Bool) → neg (a iff b) ≡ false → b ≡ a
no_difference a b e = sym (iff_e a b (neg_false _ e))

-- ---- the two orders, each with its sets of seniors
module _ (js ss ls us : List ℕ) (before : Above js ss) (after : Above ls us) where
  seniors_same : (r s : ℕ) → has (get_or us r 0) s ≡ has (get_or ss r 0) s → senior ls s r ≡ senior js s r
  seniors_same r s e = sym (after.seniors r s) ∙ e ∙ before.seniors r s

  -- d has the roles in which the juniors of r differ, and those in which its seniors do
  pub same_at : (r d below above : ℕ) → Exactly d (λ m. has below m or has above m)
      → Exactly below (λ m. neg (has (get_or js r 0) m iff has (get_or ls r 0) m))
      → Exactly above (λ m. neg (has (get_or ss r 0) m iff has (get_or us r 0) m))
      → SameAt (senior js) (senior ls) d r
  unfolding senior
  same_at r d below above e p q =
      record {
        juniors = λ s o. no_difference _ _ (sym (p s) ∙ or_fails_l _ _ (sym (e s) ∙ o));
        seniors = λ s o. seniors_same r s (no_difference _ _ (sym (q s) ∙ or_fails_r _ _ (sym (e s) ∙ o)));
      }

  pub ends_kept : (row : ModifyRow) → senior ls row.high.0 row.low.0 ≡ true
      → get_or ss row.high.0 0 ≡ get_or us row.high.0 0 → get_or js row.low.0 0 ≡ get_or ls row.low.0 0
      → EndsStay (senior js) (senior ls) row
  unfolding senior
  ends_kept row l e d =
      record {
        low_junior = l;
        over = λ s. seniors_same row.high.0 s (ap (λ (x : ℕ). has x s) (sym e));
        under = λ s. ap (λ (x : ℕ). has x s) (sym d);
      }

-- what is known of one of the rows
pub row_before : (rows : List ModifyRow) (used : ℕ) (f g : Relation) (differs : ℕ) → SoundBefore rows used f → SameOutside used f g differs
    → (i : ℕ) → i < length rows → RowBefore used f g differs (row_at rows i)
row_before rows used f g differs h same i l =
    record {
      in_use = h.in_use;
      low_junior = h.sound.low_junior i l;
      capsule = h.sound.capsule i l;
      outside = same;
    }

-- a set with more roles leaves fewer to look at
pub same_wider : (f g : Relation) (d e : ℕ) → ((s : ℕ) → has e s ≡ false → has d s ≡ false) → (r : ℕ) → SameAt f g d r → SameAt f g e r
same_wider f g d e h r p = record { juniors = λ s o. p.juniors s (h s o); seniors = λ s o. p.seniors s (h s o) }

-- ---- a row that is kept: its range, and the roles outside it
pub members_kept : (used s t : ℕ) (p : ℕ → Bool) → used < 2 ^ 64 → agreeing 64 s t used ≡ true → Exactly t p
    → (r : ℕ) → has used r ≡ true → has s r ≡ p r
unfolding agreeing
members_kept used s t p l e q r u = iff_e _ _ (implies_e _ _ (all_at 64 _ e r (has_below 64 used r l u)) u) ∙ q r

pub clear_of : (s t shared : ℕ) → Exactly shared (λ m. has s m and has t m) → shared ≡ 0 → (m : ℕ) → has t m ≡ true → has s m ≡ false
clear_of s t shared e z m o = not_so _ (λ i. clash (and_i _ _ i o) (sym (e m) ∙ ap (λ (x : ℕ). has x m) z ∙ has_empty m))

-- ---- the ranges that stay, row by row
pub stay_begin : (f g : Relation) (rows : List ModifyRow) → RangesStay f g 0 rows
stay_begin f g rows = record { stays = λ i l. absurd (not-suc-le-zero l) }

pub stay_turn : (f g : Relation) (rows : List ModifyRow) (i : ℕ) → RangesStay f g i rows
    → ((r : ℕ) → within g (row_at rows i) r ≡ within f (row_at rows i) r) → RangesStay f g (i + 1) rows
stay_turn f g rows i h e = record { stays = below_more (λ n. (r : ℕ) → within g (row_at rows n) r ≡ within f (row_at rows n) r) i h.stays e }

pub stay_end : (f g : Relation) (rows : List ModifyRow) (count i : ℕ) → count ≤ i → RangesStay f g i rows → RangesStay f g count rows
stay_end f g rows count i l h = record { stays = λ n m. h.stays n (lt_of_lt_of_le m l) }

-- ---- two ranges that overlap in part, found in their sets
pub cut_later : (sets : List ℕ) (i : ℕ)
    → cut_from sets (i + 1) (get_or sets i 0) ≡ any (length sets) (λ j. ltb i j and overlap_in_part (has (get_or sets i 0)) (has (get_or sets j 0)))
unfolding cut_from
cut_later sets i = any_same (length sets) _ _ (λ j l. ap (λ (n : ℕ). leb n j and overlap_in_part (has (get_or sets i 0)) (has (get_or sets j 0))) (add-one i))

module _ (g : Relation) (count : ℕ) (rows : List ModifyRow) where
  pub cut_found : (sets : List ℕ) → RangeSets g count rows sets → count ≤ length sets
      → some_cut (take count sets) ≡ any count (λ i. any count (λ j. overlap g (row_at rows i) (row_at rows j)))
  unfolding some_cut overlap
  cut_found sets h l =
      ap (λ (n : ℕ). any n (λ i. any n (λ j. ltb i j and overlap_in_part (has (get_or (take count sets) i 0)) (has (get_or (take count sets) j 0)))))
      (length-take-le count sets l)
      ∙ any_same count _ _ (λ i k. any_same count _ _ (λ j m. ap (λ (b : Bool). ltb i j and b) (overlap_same _ _ _ _ (taken i k) (taken j m))))
      ∙ pairs_once g count rows
    where
      taken : (i : ℕ) → i < count → (r : ℕ) → has (get_or (take count sets) i 0) r ≡ within g (row_at rows i) r
      taken i k r = ap (λ (x : ℕ). has x r) (get_or-take count sets i 0 k) ∙ h.ranges i k r
