-- Kind 6 has no number 9: where a is an end of no row, every range stays sound when a is removed.
-- Assumes nothing.
use mathlib.Core.Path.{◌≡◌, sym, ap, ap₂, ◌∙◌}
use mathlib.Core.Bool.{Bool, true, false}
use mathlib.Core.List.{List}
use Prim.Native.Nat.{ℕ, ◌<◌}
use lib.Dec.{eqb}
use Rattle.sets.specs.Tests.{◌and◌, ◌or◌, neg}
use Rattle.sets.specs.Sets.{has}
use Rattle.sets.proofs.Tests.{clash, not_so, and_i, and_l, and_r, or_fails_l, neg_i, neg_e}
use Rattle.sets.proofs.Quantifiers.{any_of, any_at}
use Rattle.order.specs.Order.{Relation, at_least}
use Rattle.order.specs.Effects.{removed}
use Rattle.ranges.specs.declared.ModifyRow.{ModifyRow}
use Rattle.ranges.specs.Ranges.{inside, Encapsulated, overlap_in_part}
use Rattle.ranges.specs.Rows.{row_at, within, overlap, SoundRows}
use Rattle.safety.proofs.Dominance.{remove_keeps}

-- f is the order before, g the order after
module _ (f g : Relation) (a : ℕ) (e : (x y : ℕ) → g x y ≡ removed f a x y) where
  keep : (x y : ℕ) → eqb x a ≡ false → eqb y a ≡ false → g x y ≡ f x y
  keep x y nx ny = e x y ∙ remove_keeps f a x y nx ny

  keep_least : (x y : ℕ) → eqb x a ≡ false → eqb y a ≡ false → at_least g x y ≡ at_least f x y
  unfolding at_least
  keep_least x y nx ny = ap (λ (t : Bool). eqb x y or t) (keep x y nx ny)

  -- a stands in no pair after
  not_first : (x y : ℕ) → g x y ≡ true → eqb x a ≡ false
  unfolding removed
  not_first x y t = or_fails_l _ _ (neg_e _ (and_r _ _ (sym (e x y) ∙ t)))

  module _ (low high : ℕ) (nl : eqb low a ≡ false) (nh : eqb high a ≡ false) where
    keep_inside : (r : ℕ) → eqb r a ≡ false → inside g low high r ≡ inside f low high r
    unfolding inside
    keep_inside r n = ap₂ ◌and◌ (keep r low n nl) (keep high r nh n)

    inside_not : (r : ℕ) → inside g low high r ≡ true → eqb r a ≡ false
    unfolding inside
    inside_not r t = not_first r low (and_l _ _ t)

    inside_old : (r : ℕ) → inside g low high r ≡ true → inside f low high r ≡ true
    inside_old r t = sym (keep_inside r (inside_not r t)) ∙ t

    -- s is outside after, and not a: it was outside before
    outside_old : (s : ℕ) → eqb s a ≡ false → inside g low high s ≡ false → inside f low high s ≡ false
    outside_old s n o = sym (keep_inside s n) ∙ o

    module _ (used after : ℕ) (kept : (x : ℕ) → has after x ≡ true → (has used x ≡ true) × (eqb x a ≡ false)) where
      remove_capsule : Encapsulated used f low high → Encapsulated after g low high
      remove_capsule h =
          record {
            seniors = λ r s i m o.
                let n = inside_not r i in
                let u = kept s m in
                keep s r u.1 n ∙ h.seniors r s (inside_old r i) u.0 (outside_old s u.1 o) ∙ sym (keep_least s high u.1 nh);
            juniors = λ r s i m o.
                let n = inside_not r i in
                let u = kept s m in
                keep r s n u.1 ∙ h.juniors r s (inside_old r i) u.0 (outside_old s u.1 o) ∙ sym (keep_least low s nl u.1);
          }

  -- who is in the range of a row after was in it before, and the other way round but for a
  record SameBut (p q : ℕ → Bool) : Type 0 where
    member : (r : ℕ) → q r ≡ true → (p r ≡ true) × (eqb r a ≡ false)
    other : (r : ℕ) → eqb r a ≡ false → q r ≡ false → p r ≡ false

  still : (p q p' q' : ℕ → Bool) → SameBut p q → SameBut p' q' → overlap_in_part q q' ≡ true → overlap_in_part p p' ≡ true
  unfolding overlap_in_part
  still p q p' q' k k' t =
      let x = any_at 64 _ (and_l _ _ t) in
      let y = any_at 64 _ (and_l _ _ (and_r _ _ t)) in
      let z = any_at 64 _ (and_r _ _ (and_r _ _ t)) in
      and_i _ _ (any_of 64 _ x.0 x.1 (and_i _ _ (k.member _ (and_l _ _ x.2)).0 (k'.member _ (and_r _ _ x.2)).0))
      (and_i _ _ (any_of 64 _ y.0 y.1 (one p q p' q' k k' y.0 y.2)) (any_of 64 _ z.0 z.1 (one p' q' p q k' k z.0 z.2)))
    where
      one : (p q p' q' : ℕ → Bool) → SameBut p q → SameBut p' q' → (r : ℕ) → (q r and neg (q' r)) ≡ true → (p r and neg (p' r)) ≡ true
      one p q p' q' k k' r s =
          let m = k.member r (and_l _ _ s) in
          and_i _ _ m.0 (neg_i _ (k'.other r m.1 (neg_e _ (and_r _ _ s))))

  module _ (used after count : ℕ) (rows : List ModifyRow) (kept : (x : ℕ) → has after x ≡ true → (has used x ≡ true) × (eqb x a ≡ false))
      (ends : (i : ℕ) → i < count → (eqb (row_at rows i).low.0 a ≡ false) × (eqb (row_at rows i).high.0 a ≡ false)) where
    row_kept : (i : ℕ) → i < count → SameBut (within f (row_at rows i)) (within g (row_at rows i))
    unfolding within
    row_kept i l =
        record {
          member = λ r t. (inside_old _ _ (ends i l).0 (ends i l).1 r t, inside_not _ _ (ends i l).0 (ends i l).1 r t);
          other = λ r n o. outside_old _ _ (ends i l).0 (ends i l).1 r n o;
        }

    pub remove_sound : SoundRows used f count rows → SoundRows after g count rows
    unfolding overlap
    remove_sound h =
        record {
          low_junior = λ i l. keep _ _ (ends i l).1 (ends i l).0 ∙ h.low_junior i l;
          capsule = λ i l. remove_capsule _ _ (ends i l).0 (ends i l).1 used after kept (h.capsule i l);
          apart = λ i j l m. not_so _ (λ t. clash (still _ _ _ _ (row_kept i l) (row_kept j m) t) (h.apart i j l m));
        }
