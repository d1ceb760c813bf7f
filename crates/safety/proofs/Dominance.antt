-- Two roles present before and after an accepted request of kinds 5 to 8 keep their dominance unless both lie strictly inside one range that this
-- officer may modify. Document 01, demand 3.
-- Assumes nothing.
use mathlib.Core.Path.{◌≡◌, sym, ap, ◌∙◌, subst}
use mathlib.Core.Logic.{⊎_elim}
use mathlib.Core.Bool.{Bool, true, false}
use Prim.Native.Nat.{ℕ}
use lib.Dec.{eqb}
use borrow.Author.Tests.{eqb-true}
use Rattle.sets.specs.Tests.{◌and◌, ◌or◌}
use Rattle.sets.specs.Sets.{has}
use Rattle.sets.proofs.Tests.{by_test, clash, not_so, and_i, and_l, and_r, and_true, or_false, or_l, or_cases, or_given, or_fails, neg_i, and_fails_l, and_fails_r}
use Rattle.order.specs.Order.{Relation, at_least, Strict, InUse}
use Rattle.order.specs.Effects.{created, removed, inserted, cut}
use Rattle.order.proofs.Relations.{over_least, least_over}
use Rattle.ranges.specs.Ranges.{inside, Encapsulated}

-- ---- on relations: f before, and the effects

-- kind 5: among roles other than the new one nothing changes
pub create_keeps : (f : Relation) (n a b x y : ℕ) → eqb x n ≡ false → eqb y n ≡ false → created f n a b x y ≡ f x y
unfolding created
create_keeps f n a b x y nx ny =
    ap (λ (t : Bool). f x y or t) (or_fails _ _ (and_fails_r _ _ ny) (and_fails_l _ _ nx)) ∙ or_false _

-- kind 6: among roles other than the one removed nothing changes
pub remove_keeps : (f : Relation) (a x y : ℕ) → eqb x a ≡ false → eqb y a ≡ false → removed f a x y ≡ f x y
unfolding removed
remove_keeps f a x y nx ny = ap (λ (t : Bool). f x y and t) (neg_i _ (or_fails _ _ nx ny)) ∙ and_true _

-- kind 8: only the one pair changes
pub cut_keeps : (f : Relation) (a b x y : ℕ) → (eqb x a and eqb y b) ≡ false → cut f a b x y ≡ f x y
unfolding cut
cut_keeps f a b x y n = ap (λ (t : Bool). f x y and t) (neg_i _ n) ∙ and_true _

-- kind 7: a new pair has both its roles inside the range in which a and b lie, if the range is encapsulated
module _ (f : Relation) (used low high a b : ℕ) (strict : Strict f) (in_use : InUse used f) (capsule : Encapsulated used f low high)
    (ia : inside f low high a ≡ true) (ib : inside f low high b ≡ true) where
  high_over_b : f high b ≡ true
  unfolding inside
  high_over_b = and_r _ _ ib

  a_over_low : f a low ≡ true
  unfolding inside
  a_over_low = and_l _ _ ia

  -- what is a or above it and outside the range is high or above it, so it was above b already
  above : (x : ℕ) → at_least f x a ≡ true → inside f low high x ≡ false → has used x ≡ true → f x b ≡ true
  unfolding at_least
  above x t o u =
      ⊎_elim (λ (e : eqb x a ≡ true). clash (subst (λ (z : ℕ). inside f low high z ≡ true) (sym (eqb-true x a e)) ia) o)
      (λ (s : f x a ≡ true). least_over f strict x high b (sym (capsule.seniors a x ia u o) ∙ s) high_over_b) (or_cases _ _ t)

  below : (y : ℕ) → at_least f b y ≡ true → inside f low high y ≡ false → has used y ≡ true → f a y ≡ true
  unfolding at_least
  below y t o u =
      ⊎_elim (λ (e : eqb b y ≡ true). clash (subst (λ (z : ℕ). inside f low high z ≡ true) (eqb-true b y e) ib) o)
      (λ (s : f b y ≡ true). over_least f strict a low y a_over_low (sym (capsule.juniors b y ib u o) ∙ s)) (or_cases _ _ t)

  pub insert_keeps : (x y : ℕ) → has used x ≡ true → has used y ≡ true → (inside f low high x and inside f low high y) ≡ false → inserted f a b x y ≡ f x y
  unfolding inserted
  insert_keeps x y ux uy o =
      by_test (f x y) (λ t. or_l _ _ t ∙ sym t)
      (λ t. or_given _ _ t ∙ not_so _ (λ s. clash (old s) t) ∙ sym t)
    where
      old : (at_least f x a and at_least f b y) ≡ true → f x y ≡ true
      old s =
          by_test (inside f low high x)
          (λ i. by_test (inside f low high y) (λ j. clash (and_i _ _ i j) o)
          (λ j. least_over f strict x a y (and_l _ _ s) (below y (and_r _ _ s) j uy)))
          (λ i. over_least f strict x b y (above x (and_l _ _ s) i ux) (and_r _ _ s))
