-- What the tests say, as statements: `encapsulated` decides `Encapsulated`, and rows that are not unsound are `SoundRows`.
-- Assumes nothing.
use mathlib.Core.Path.{◌≡◌}
use mathlib.Core.Bool.{true, false}
use mathlib.Core.List.{List}
use Prim.Native.Nat.{ℕ, ◌<◌, ◌^◌}
use Rattle.sets.specs.Tests.{◌and◌, ◌iff◌}
use Rattle.sets.specs.Sets.{has}
use Rattle.sets.proofs.Tests.{and_i, and_l, and_r, or_fails, or_fails_l, or_fails_r}
use Rattle.sets.proofs.Tests.{neg_i, neg_e, neg_false, neg_fails, implies_i, implies_e, iff_i, iff_e}
use Rattle.sets.proofs.Digits.{has_below}
use Rattle.sets.proofs.Quantifiers.{all_of, all_at, any_fails, any_none}
use Rattle.order.specs.Order.{Relation, at_least, InUse}
use Rattle.ranges.specs.declared.ModifyRow.{ModifyRow}
use Rattle.ranges.specs.Ranges.{inside, encapsulated, Encapsulated}
use Rattle.ranges.specs.Rows.{low_not_junior, not_encapsulated, unsound, SoundRows}

module _ (used : ℕ) (f : Relation) (width : used < 2 ^ 64) (in_use : InUse used f) where
  inside_below : (low high r : ℕ) → inside f low high r ≡ true → r < 64
  unfolding inside
  inside_below low high r e = has_below 64 used r width (in_use.above r low (and_l _ _ e))

  sides : (low high : ℕ) → encapsulated used f low high ≡ true → (r s : ℕ)
      → inside f low high r ≡ true → has used s ≡ true → inside f low high s ≡ false
      → ((f s r iff at_least f s high) and (f r s iff at_least f low s)) ≡ true
  unfolding encapsulated
  sides low high e r s i m o =
      implies_e _ _ (all_at 64 _ (implies_e _ _ (all_at 64 _ e r (inside_below low high r i)) i)
      s (has_below 64 used s width m)) (and_i _ _ m (neg_i _ o))

  pub encapsulated_means : (low high : ℕ) → encapsulated used f low high ≡ true → Encapsulated used f low high
  encapsulated_means low high e =
      record {
        seniors = λ r s i m o. iff_e _ _ (and_l _ _ (sides low high e r s i m o));
        juniors = λ r s i m o. iff_e _ _ (and_r _ _ (sides low high e r s i m o));
      }

  -- rows that are not unsound, as a statement
  pub sound_means : (count : ℕ) (rows : List ModifyRow) → unsound used f count rows ≡ false → SoundRows used f count rows
  unfolding unsound low_not_junior not_encapsulated
  sound_means count rows e =
      record {
        low_junior = λ i l. neg_false _ (any_none count _ (or_fails_l _ _ e) i l);
        capsule = λ i l. encapsulated_means _ _ (neg_false _ (any_none count _ (or_fails_l _ _ (or_fails_r _ _ e)) i l));
        apart = λ i j l m. any_none count _ (any_none count _ (or_fails_r _ _ (or_fails_r _ _ e)) i l) j m;
      }

pub means_encapsulated : (used : ℕ) (f : Relation) (low high : ℕ) → Encapsulated used f low high → encapsulated used f low high ≡ true
unfolding encapsulated
means_encapsulated used f low high h =
    all_of 64 _ (λ r l. implies_i _ _ (λ i. all_of 64 _ (λ s m. implies_i _ _ (λ o.
    and_i _ _ (iff_i _ _ (h.seniors r s i (and_l _ _ o) (neg_e _ (and_r _ _ o))))
    (iff_i _ _ (h.juniors r s i (and_l _ _ o) (neg_e _ (and_r _ _ o))))))))

pub means_sound : (used : ℕ) (f : Relation) (count : ℕ) (rows : List ModifyRow) → SoundRows used f count rows → unsound used f count rows ≡ false
unfolding unsound low_not_junior not_encapsulated
means_sound used f count rows h =
    or_fails _ _ (any_fails count _ (λ i l. neg_fails _ (h.low_junior i l)))
    (or_fails _ _ (any_fails count _ (λ i l. neg_fails _ (means_encapsulated used f _ _ (h.capsule i l))))
    (any_fails count _ (λ i l. any_fails count _ (λ j m. h.apart i j l m))))
