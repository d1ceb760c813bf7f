-- Ranges: what the one routine says of a strict range, and encapsulation by whole sets.
-- Assumes nothing.
use mathlib.Core.Path.{◌≡◌, sym, ap, ap₂, ◌∙◌}
use mathlib.Core.Bool.{Bool, true, false, not}
use mathlib.Core.List.{List}
use Prim.Native.Nat.{ℕ, ◌^◌, ◌<◌}
use lib.Dec.{eqb}
use lib.ListN.{get_or}
use Rattle.sets.specs.Tests.{◌and◌, ◌or◌, neg, ◌implies◌, ◌iff◌}
use Rattle.sets.specs.Sets.{has, all, any, lowest, Exactly, agreeing}
use Rattle.sets.proofs.Tests.{not_neg, neg-neg, and_fails_l, and_fails_r, and_given, or_given, implies_i, implies_given, implies-and, eqb_sym}
use Rattle.sets.proofs.Digits.{has_empty}
use Rattle.sets.proofs.Builders.{empty_test}
use Rattle.sets.proofs.Members.{Remaining, left_end, lowest_below, lowest_in}
use Rattle.sets.proofs.Quantifiers.{all_of, all_fails, all_same, all-and, any_same}
use Rattle.order.specs.Order.{Relation, senior, at_least}
use Rattle.order.specs.Rows.{Above}
use Rattle.ranges.specs.Ranges.{inside, in_range, encapsulated, parted, parted_by_ends, overlap_in_part}

-- with brackets 0 neither end is included
pub inside_is : (f : Relation) (low high r : ℕ) → in_range f low high 0 r ≡ inside f low high r
unfolding in_range inside
inside_is f low high r =
    ap₂ ◌and◌ (or_given _ _ (and_fails_r _ _ (has_empty 0))) (or_given _ _ (and_fails_r _ _ (has_empty 1)))

-- the seniors of low that are juniors of high
pub set-inside : (js above : List ℕ) → Above js above → (low high r : ℕ)
    → (has (get_or above low 0) r and has (get_or js high 0) r) ≡ inside (senior js) low high r
unfolding inside senior
set-inside js above h low high r = ap (λ (b : Bool). b and has (get_or js high 0) r) (h.seniors low r)

-- the two tests of `is_parted`, each on whole sets
pub parted_split : (js ss : List ℕ) → Above js ss → (r outside above below : ℕ)
    → parted (senior js) r (has outside) (has above) (has below)
    ≡ (agreeing 64 (get_or ss r 0) above outside and agreeing 64 (get_or js r 0) below outside)
unfolding parted agreeing senior
parted_split js ss h r outside above below =
    all_same 64 _ _ (λ s l. implies-and (has outside s) _ _
    ∙ ap (λ (b : Bool). (has outside s implies (b iff has above s)) and (has outside s implies (has (get_or js r 0) s iff has below s)))
    (sym (h.seniors r s)))
    ∙ all-and 64 _ _

-- the two sets that `parted_by_ends` makes: what is above the range, and what is below it
pub ends_parted : (f : Relation) (low high set outside above below : ℕ)
    → ((s : ℕ) → s < 64 → has above s ≡ at_least f s high) → ((s : ℕ) → s < 64 → has below s ≡ at_least f low s)
    → all 64 (λ r. has set r implies parted f r (has outside) (has above) (has below)) ≡ parted_by_ends f low high set outside
unfolding parted_by_ends parted
ends_parted f low high set outside above below over under =
    all_same 64 _ _ (λ r l. ap (λ (t : Bool). has set r implies t)
    (all_same 64 _ _ (λ s m. ap₂ (λ (b c : Bool). has outside s implies ((f s r iff b) and (f r s iff c))) (over s m) (under s m))))

-- a range is encapsulated exactly if its roles are parted so from those in use outside it
pub encapsulated_is : (used : ℕ) (f : Relation) (low high range outside : ℕ)
    → Exactly range (inside f low high) → Exactly outside (λ s. has used s and neg (has range s))
    → parted_by_ends f low high range outside ≡ encapsulated used f low high
unfolding encapsulated parted_by_ends parted
encapsulated_is used f low high range outside range_is outside_is =
    all_same 64 _ _ (λ r l. ap₂ ◌implies◌ (range_is r)
    (all_same 64 _ _ (λ s m. ap (λ (b : Bool). b implies ((f s r iff at_least f s high) and (f r s iff at_least f low s)))
    (outside_is s ∙ ap (λ (b : Bool). has used s and neg b) (range_is s)))))

-- ---- a loop through the members of a set, the lowest first, that tests each
module _ (f : ℕ → Bool) (set : ℕ) where
  -- those that are no longer left have passed
  abbrev pub Passed : ℕ → Type 0
  Passed rest = Remaining (λ n. f n ≡ true) set rest

  -- the lowest that is left, by the number that the code has for it, is a member
  next_member : (rest m : ℕ) → Passed rest → m ≡ lowest 64 rest → 0 < rest → rest < 2 ^ 64 → has set m ≡ true
  next_member rest m h e l k = h.within m (rw e (lowest_in 64 rest l k))

  pub passed_not : (rest m : ℕ) → Passed rest → m ≡ lowest 64 rest → 0 < rest → rest < 2 ^ 64 → f m ≡ false
      → false ≡ all 64 (λ n. has set n implies f n)
  passed_not rest m h e l k n =
      sym (all_fails 64 _ m (rw e (lowest_below 64 rest l k)) (implies_given _ _ (next_member rest m h e l k) ∙ n))

  pub passed_all : (rest : ℕ) → Passed rest → rest ≡ 0 → true ≡ all 64 (λ n. has set n implies f n)
  passed_all rest h e = sym (all_of 64 _ (λ n l. implies_i _ _ (left_end _ _ rest h e n)))

-- overlapping in part goes by who is in the two ranges
pub overlap_same : (p p' q q' : ℕ → Bool) → ((r : ℕ) → p r ≡ p' r) → ((r : ℕ) → q r ≡ q' r)
    → overlap_in_part p q ≡ overlap_in_part p' q'
unfolding overlap_in_part
overlap_same p p' q q' e d =
    ap₂ ◌and◌ (any_same 64 _ _ (λ r l. ap₂ ◌and◌ (e r) (d r)))
    (ap₂ ◌and◌ (any_same 64 _ _ (λ r l. ap₂ (λ (a b : Bool). a and neg b) (e r) (d r)))
    (any_same 64 _ _ (λ r l. ap₂ (λ (a b : Bool). a and neg b) (d r) (e r))))

-- the two ends of a range, as the routine tests them: a and z are what it finds, b and d whether an end is included
module _ (f : Relation) (low high brackets r : ℕ) (a b : Bool) (e : a ≡ ((eqb r low and b) or f r low)) (i : b ≡ has brackets 0) where
  low_of : a ≡ ((eqb r low and has brackets 0) or f r low)
  low_of = rw (← i) e

  pub out_of_range : a ≡ false → false ≡ in_range f low high brackets r
  unfolding in_range
  out_of_range n = sym (and_fails_l _ _ (sym low_of ∙ n))

  pub rest_of_range : a ≡ true → (z d : Bool) → z ≡ ((eqb high r and d) or f high r) → d ≡ has brackets 1 → z ≡ in_range f low high brackets r
  unfolding in_range
  rest_of_range y z d q j =
      q ∙ ap₂ (λ (s t : Bool). (s and t) or f high r) (eqb_sym high r) j ∙ sym (and_given _ _ (sym low_of ∙ y))

-- the code's test that a set has a member
pub some_test : (s : ℕ) (f : ℕ → Bool) → s < 2 ^ 64 → Exactly s f → not (eqb s 0) ≡ any 64 f
some_test s f l e = ap not (empty_test 64 s f l e) ∙ not_neg _ ∙ neg-neg _
