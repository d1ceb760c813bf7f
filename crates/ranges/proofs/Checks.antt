-- The checks of all rows: two rows are looked at once, and number 9 is what the two walks find.
-- Assumes nothing.
use mathlib.Core.Path.{◌≡◌, refl, sym, ap, ap₂, ◌∙◌, subst}
use mathlib.Core.Logic.{⊎_elim}
use mathlib.Core.Bool.{Bool, true, false, not}
use mathlib.Core.List.{List}
use Prim.Native.Nat.{ℕ, ◌+◌, ◌≤◌, ◌<◌}
use native.Mathlib.Numerals.{add-one}
use native.Mathlib.Omega.{arith}
use lib.Dec.{leb, ltb}
use lib.ListN.{length, take}
use lib.Seq.{get_or-take, length-take-le}
use borrow.Author.Tests.{lt-ltb, lt-leb}
use Rattle.sets.specs.Tests.{◌and◌, ◌or◌, neg}
use Rattle.sets.specs.Sets.{has, any, least}
use Rattle.sets.proofs.Tests.{same_test, not_so, clash, and_i, and_l, and_r, and_comm, and_fails_l, or_l, or_given, or_assoc, neg_e, not_neg}
use Rattle.sets.proofs.Quantifiers.{any_of, any_at, any_same, any_fails, any-or, least_any, least_same}
use Rattle.sets.proofs.Loops.{None}
use Rattle.order.specs.Order.{Relation}
use Rattle.ranges.specs.declared.ModifyRow.{ModifyRow}
use Rattle.ranges.specs.declared.Look.{Look}
use Rattle.ranges.specs.declared.Look.TheVariants.{Low, Open, Either}
use Rattle.ranges.specs.Ranges.{encapsulated, overlap_in_part}
use Rattle.ranges.specs.Rows.{no_row, row_at, within, low_not_junior, not_encapsulated, row_fails, overlap, overlap_from}
use Rattle.ranges.specs.Rows.{first_overlap, first_failing, unsound, SoundRows}
use Rattle.ranges.specs.After.{RangesStay}
use Rattle.ranges.proofs.Laws.{overlap_same}

-- overlapping in part is the same either way round, and no range overlaps itself in part
swap : (a b c : Bool) → (a and (b and c)) ≡ (a and (c and b))
unfolding ◌and◌
swap true b c = and_comm b c
swap false b c = refl

pub overlap_turned : (p q : ℕ → Bool) → overlap_in_part p q ≡ overlap_in_part q p
unfolding overlap_in_part
overlap_turned p q =
    ap (λ (b : Bool). b and (any 64 (λ r. p r and neg (q r)) and any 64 (λ r. q r and neg (p r)))) (any_same 64 _ _ (λ r l. and_comm (p r) (q r)))
    ∙ swap _ _ _

pub overlap_self : (p : ℕ → Bool) → overlap_in_part p p ≡ false
unfolding overlap_in_part
overlap_self p =
    not_so _ (λ t. let r = any_at 64 _ (and_l _ _ (and_r _ _ t)) in clash (and_l _ _ r.2) (neg_e _ (and_r _ _ r.2)))

-- a loop from a place on: none below it counts
pub none_from : (g : ℕ → Bool) (from : ℕ) → None (λ j. leb from j and g j) from
none_from g from = record { below = λ n l. and_fails_l _ _ (lt-leb from n l) }

-- what `overlap_from` finds from the next row on is a later row
pub later : (f : Relation) (count : ℕ) (rows : List ModifyRow) (i range : ℕ) → ((r : ℕ) → has range r ≡ within f (row_at rows i) r)
    → ltb (overlap_from f count rows (i + 1) (has range)) count ≡ any count (λ j. ltb i j and overlap f (row_at rows i) (row_at rows j))
unfolding overlap_from overlap
later f count rows i range e =
    sym (least_any count _)
    ∙ any_same count _ _ (λ j l. ap₂ ◌and◌ (ap (λ (n : ℕ). leb n j) (add-one i)) (overlap_same _ _ _ _ e (λ r. refl)))

-- of two rows that overlap in part one is the later
module _ (f : Relation) (count : ℕ) (rows : List ModifyRow) where
  pub pairs_once : any count (λ i. any count (λ j. ltb i j and overlap f (row_at rows i) (row_at rows j)))
      ≡ any count (λ i. any count (λ j. overlap f (row_at rows i) (row_at rows j)))
  unfolding overlap
  pairs_once =
      same_test _ _
      (λ t. let r = any_at count _ t in let s = any_at count _ r.2 in
      any_of count _ r.0 r.1 (any_of count _ s.0 s.1 (and_r _ _ s.2)))
      (λ t. let r = any_at count _ t in let s = any_at count _ r.2 in
      ⊎_elim (λ l. any_of count _ r.0 r.1 (any_of count _ s.0 s.1 (and_i _ _ (lt-ltb _ _ l) s.2)))
      (λ l. ⊎_elim
      (λ e. clash s.2 (subst (λ (k : ℕ). overlap_in_part (within f (row_at rows r.0)) (within f (row_at rows k)) ≡ false) (sym e) (overlap_self _)))
      (λ m. any_of count _ s.0 s.1 (any_of count _ r.0 r.1 (and_i _ _ (lt-ltb _ _ m) (overlap_turned _ _ ∙ s.2))))
      (native.Mathlib.Nat.eq-or-lt_of_le l))
      (Rattle.sets.proofs.Digits.lt_or_le r.0 s.0))

  pub overlap_found : ltb (first_overlap f count rows) count ≡ any count (λ i. any count (λ j. overlap f (row_at rows i) (row_at rows j)))
  unfolding first_overlap
  overlap_found = sym (least_any count _) ∙ pairs_once

  pub failing_found : (look : Look) (used : ℕ) → ltb (first_failing look used f count rows) count ≡ any count (λ i. row_fails look used f (row_at rows i))
  unfolding first_failing
  failing_found look used = sym (least_any count _)

  -- number 9: some row fails, or else two overlap in part
  module _ (used : ℕ) where
    either : unsound used f count rows ≡ (any count (λ i. row_fails Either used f (row_at rows i)) or ltb (first_overlap f count rows) count)
    unfolding unsound row_fails
    either = sym (or_assoc _ _ _) ∙ ap₂ ◌or◌ (sym (any-or count _ _)) (sym overlap_found)

    pub unsound_row : any count (λ i. row_fails Either used f (row_at rows i)) ≡ true → true ≡ unsound used f count rows
    unsound_row t = sym (either ∙ or_l _ _ t)

    pub unsound_pair : any count (λ i. row_fails Either used f (row_at rows i)) ≡ false → ltb (first_overlap f count rows) count ≡ unsound used f count rows
    unsound_pair t = sym (either ∙ or_given _ _ t)

    -- after a change where each range stays, no two overlap in part that did not before
    pub unsound_stays : any count (λ i. row_fails Either used f (row_at rows i)) ≡ false
        → (before : ℕ) (g : Relation) → SoundRows before g count rows → RangesStay g f count rows → false ≡ unsound used f count rows
    unfolding overlap
    unsound_stays t before g h stay =
        sym (overlap_found ∙ any_fails count _ (λ i l. any_fails count _ (λ j m.
        overlap_same _ _ _ _ (stay.stays i l) (stay.stays j m) ∙ h.apart i j l m)))
        ∙ unsound_pair t

-- what holds of the first rows, lent, holds of the rows below the count
module _ (n : ℕ) (rows : List ModifyRow) (fits : n ≤ length rows) where
  abbrev t : List ModifyRow
  t = take n rows

  count_lent : length t ≡ n
  count_lent = length-take-le n rows fits

  any_lent : (g : ModifyRow → Bool) → any (length t) (λ k. g (row_at t k)) ≡ any n (λ k. g (row_at rows k))
  any_lent g = ap (λ (c : ℕ). any c (λ k. g (row_at t k))) count_lent ∙ any_same n _ _ (λ k l. ap g (get_or-take n rows k no_row l))

  pairs_lent : (g : ModifyRow → ModifyRow → Bool)
      → any (length t) (λ i. any (length t) (λ j. g (row_at t i) (row_at t j))) ≡ any n (λ i. any n (λ j. g (row_at rows i) (row_at rows j)))
  pairs_lent g = any_same _ _ _ (λ i l. any_lent (g (row_at t i))) ∙ any_lent (λ row. any n (λ j. g row (row_at rows j)))

  pub some_failing_lent : (look : Look) (used : ℕ) (f : Relation)
      → ltb (first_failing look used f (length t) t) (length t) ≡ any n (λ i. row_fails look used f (row_at rows i))
  some_failing_lent look used f = failing_found f (length t) t look used ∙ any_lent (row_fails look used f)

  pub some_overlap_lent : (f : Relation)
      → ltb (first_overlap f (length t) t) (length t) ≡ any n (λ i. any n (λ j. overlap f (row_at rows i) (row_at rows j)))
  some_overlap_lent f = overlap_found f (length t) t ∙ pairs_lent (overlap f)

  pub unsound_lent : (used : ℕ) (f : Relation) → unsound used f (length t) t ≡ unsound used f n rows
  unfolding unsound
  unsound_lent used f =
      ap₂ ◌or◌ (any_lent (low_not_junior f)) (ap₂ ◌or◌ (any_lent (not_encapsulated used f)) (pairs_lent (overlap f)))

  pub sound_lent : (used : ℕ) (f : Relation) → SoundRows used f n rows → SoundRows used f (length t) t
  sound_lent used f h =
      record {
        low_junior = λ i l. rw (same i l) (h.low_junior i (below i l));
        capsule = λ i l. rw (same i l) (h.capsule i (below i l));
        apart = λ i j l m. rw (same i l, same j m) (h.apart i j (below i l) (below j m));
      }
    where
      below : (i : ℕ) → i < length t → i < n
      below i l = omega (arith, count_lent)

      same : (i : ℕ) → i < length t → row_at t i ≡ row_at rows i
      same i l = get_or-take n rows i no_row (below i l)

-- what is first of the rows lent is first of the first n
module _ (n : ℕ) (rows : List ModifyRow) (count : length (take n rows) ≡ n) where
  lent : (g : ℕ → ModifyRow → Bool) → least (length (take n rows)) (λ k. g k (row_at (take n rows) k)) ≡ least n (λ k. g k (row_at rows k))
  lent g = ap (λ (c : ℕ). least c (λ k. g k (row_at (take n rows) k))) count ∙ least_same n _ _ (λ k l. ap (g k) (get_or-take n rows k no_row l))

  pub failing_lent : (look : Look) (used : ℕ) (f : Relation)
      → first_failing look used f (length (take n rows)) (take n rows) ≡ first_failing look used f n rows
  unfolding first_failing
  failing_lent look used f = lent (λ k row. row_fails look used f row)

  pub overlap_lent : (f : Relation) (from : ℕ) (range : ℕ → Bool)
      → overlap_from f (length (take n rows)) (take n rows) from range ≡ overlap_from f n rows from range
  unfolding overlap_from
  overlap_lent f from range = lent (λ k row. leb from k and overlap_in_part range (within f row))

-- ---- a row's two tests, as the code makes them: j is whether low is junior to high, k whether the range is encapsulated
module _ (f : Relation) (row : ModifyRow) where
  pub low_test : (j : Bool) → j ≡ f row.high.0 row.low.0 → not j ≡ low_not_junior f row
  unfolding low_not_junior
  low_test j e = not_neg j ∙ ap neg e

  pub capsule_test : (used : ℕ) (k : Bool) → k ≡ encapsulated used f row.low.0 row.high.0 → not k ≡ not_encapsulated used f row
  unfolding not_encapsulated
  capsule_test used k e = not_neg k ∙ ap neg e

-- what a row fails, by the test that is looked for: b is what the code finds
module _ (look : Look) (used : ℕ) (f : Relation) (row : ModifyRow) (b : Bool) where
  pub fails_low : look ≡ Low → b ≡ low_not_junior f row → b ≡ row_fails look used f row
  unfolding row_fails
  fails_low l e = rw l e

  pub fails_open : look ≡ Open → b ≡ not_encapsulated used f row → b ≡ row_fails look used f row
  unfolding row_fails
  fails_open l e = rw l e

  pub fails_first : look ≡ Either → b ≡ low_not_junior f row → b ≡ true → true ≡ row_fails look used f row
  unfolding row_fails
  fails_first l e z = rw l (sym (or_l _ _ (sym e ∙ z)))

  pub fails_second : look ≡ Either → (a : Bool) → a ≡ low_not_junior f row → a ≡ false → b ≡ not_encapsulated used f row
      → b ≡ row_fails look used f row
  unfolding row_fails
  fails_second l a d z e = rw l (e ∙ sym (or_given _ _ (sym d ∙ z)))
