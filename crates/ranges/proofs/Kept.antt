-- A row that a change leaves is encapsulated after it exactly if the roles that are new in its range are parted by its ends.
-- Of a role r that was in use and is in the range after, and a role s in use outside it: r was in the range before. If s was in use, it was outside
-- the range before, and stood to r as the ends did; if not, it stood to none, and is neither end. s is in no difference, so all this still holds.
--   fresh_parted   the law
--   kept_fails     so the row fails exactly if a new role is not parted.        none_fresh   with no new role it does not fail
-- Assumes nothing.
use mathlib.Core.Path.{◌≡◌, sym, ap, ◌∙◌}
use mathlib.Core.Bool.{Bool, true, false}
use Prim.Native.Nat.{ℕ}
use lib.Dec.{eqb}
use borrow.Author.Tests.{eqb-true}
use Rattle.sets.specs.Tests.{◌and◌, ◌or◌, neg, ◌implies◌}
use Rattle.sets.specs.Sets.{has, Exactly}
use Rattle.sets.proofs.Tests.{by_test, clash, not_so, and_i, and_r, and_fails_r, and_true, or_given, or_fails}
use Rattle.sets.proofs.Tests.{neg_e, neg_i, neg_fails, implies_i, implies_not, iff_i}
use Rattle.sets.proofs.Digits.{has_empty}
use Rattle.sets.proofs.Quantifiers.{all_of, all_same}
use Rattle.order.specs.Order.{Relation, at_least, InUse}
use Rattle.ranges.specs.declared.ModifyRow.{ModifyRow}
use Rattle.ranges.specs.declared.Look.TheVariants.{Either}
use Rattle.ranges.specs.Ranges.{inside, encapsulated, parted, parted_by_ends, Encapsulated}
use Rattle.ranges.specs.Rows.{within, low_not_junior, not_encapsulated, row_fails}
use Rattle.ranges.specs.After.{SameOutside, KeptRow}
use Rattle.ranges.proofs.Laws.{encapsulated_is}

module _ (used present : ℕ) (f g : Relation) (row : ModifyRow) (range outside differs : ℕ)
    (in_use : InUse used f) (was_junior : f row.high.0 row.low.0 ≡ true) (capsule : Encapsulated used f row.low.0 row.high.0)
    (same : SameOutside used f g differs) (kept : KeptRow used f g row range outside differs)
    (range_is : Exactly range (inside g row.low.0 row.high.0)) (outside_is : Exactly outside (λ s. has present s and neg (has range s))) where
  abbrev low : ℕ
  low = row.low.0

  abbrev high : ℕ
  high = row.high.0

  -- both ends were in use, as the one was senior to the other
  high_used : has used high ≡ true
  high_used = in_use.above high low was_junior

  low_used : has used low ≡ true
  low_used = in_use.below high low was_junior

  -- a role that was in use is in the range after exactly if it was in it before
  was_inside : (r : ℕ) → has used r ≡ true → has range r ≡ true → inside f low high r ≡ true
  unfolding within
  was_inside r u i = sym (kept.members r u) ∙ i

  was_outside : (s : ℕ) → has used s ≡ true → has outside s ≡ true → inside f low high s ≡ false
  unfolding within
  was_outside s u o = sym (kept.members s u) ∙ neg_e _ (and_r _ _ (sym (outside_is s) ∙ o))

  -- what makes a role one that was in use does not hold of one that was not
  absent : (s : ℕ) → has used s ≡ false → (b : Bool) → (b ≡ true → has used s ≡ true) → b ≡ false
  absent s v b h = not_so b (λ t. clash (h t) v)

  module _ (r s : ℕ) (u : has used r ≡ true) (i : has range r ≡ true) (o : has outside s ≡ true) where
    over_before : f s r ≡ at_least f s high
    unfolding at_least
    over_before =
        by_test (has used s)
        (λ v. capsule.seniors r s (was_inside r u i) v (was_outside s v o))
        (λ v. absent s v _ (in_use.above s r)
        ∙ sym (or_fails _ _ (absent s v _ (λ t. ap (has used) (eqb-true s high t) ∙ high_used)) (absent s v _ (in_use.above s high))))

    under_before : f r s ≡ at_least f low s
    unfolding at_least
    under_before =
        by_test (has used s)
        (λ v. capsule.juniors r s (was_inside r u i) v (was_outside s v o))
        (λ v. absent s v _ (in_use.below r s)
        ∙ sym (or_fails _ _ (absent s v _ (λ t. ap (has used) (sym (eqb-true low s t)) ∙ low_used)) (absent s v _ (in_use.below low s))))

    over_after : g s r ≡ at_least g s high
    unfolding at_least
    over_after =
        (same.same r u).seniors s (kept.clear s o) ∙ over_before ∙ ap (λ (b : Bool). eqb s high or b) (sym (kept.ends.over s))

    under_after : g r s ≡ at_least g low s
    unfolding at_least
    under_after =
        (same.same r u).juniors s (kept.clear s o) ∙ under_before ∙ ap (λ (b : Bool). eqb low s or b) (sym (kept.ends.under s))

  old_parted : (r : ℕ) → has used r ≡ true → has range r ≡ true → parted g r (has outside) (λ s. at_least g s high) (at_least g low) ≡ true
  unfolding parted
  old_parted r u i =
      all_of 64 _ (λ s l. implies_i _ _ (λ o. and_i _ _ (iff_i _ _ (over_after r s u i o)) (iff_i _ _ (under_after r s u i o))))

  module _ (fresh : ℕ) (fresh_is : Exactly fresh (λ r. has range r and neg (has used r))) where
    fresh_parted : parted_by_ends g low high fresh outside ≡ encapsulated present g low high
    unfolding parted_by_ends
    fresh_parted =
        all_same 64 _ _ (λ r l. by_test (has used r)
        (λ u. implies_not _ _ (fresh_is r ∙ and_fails_r _ _ (neg_fails _ u)) ∙ sym (implies_i _ _ (old_parted r u)))
        (λ u. ap (λ (b : Bool). b implies parted g r (has outside) (λ s. at_least g s high) (at_least g low))
        (fresh_is r ∙ ap (λ (b : Bool). has range r and b) (neg_i _ u) ∙ and_true _)))
        ∙ encapsulated_is present g low high range outside range_is outside_is

    pub kept_fails : neg (parted_by_ends g low high fresh outside) ≡ row_fails Either present g row
    unfolding row_fails low_not_junior not_encapsulated
    kept_fails = ap neg fresh_parted ∙ sym (or_given _ _ (neg_fails _ kept.ends.low_junior))

    pub none_fresh : fresh ≡ 0 → false ≡ row_fails Either present g row
    unfolding parted_by_ends
    none_fresh z =
        sym (neg_fails _ (all_of 64 _ (λ r l. implies_not _ _ (ap (λ (x : ℕ). has x r) z ∙ has_empty r)))) ∙ kept_fails
