-- The four effects keep a strict order strict, and its pairs between roles in use: on relations, with no list in sight.
-- Assumes nothing.
use mathlib.Core.Path.{◌≡◌, sym, ap, ◌∙◌, subst}
use mathlib.Core.Logic.{⊎_elim}
use mathlib.Core.Bool.{true, false}
use Prim.Native.Nat.{ℕ, ◌<◌, ◌^◌}
use lib.Dec.{eqb}
use borrow.Author.Tests.{eqb-true, eqb-false, eq-eqb, ne_eqb}
use Rattle.sets.specs.Tests.{◌and◌, ◌or◌}
use Rattle.sets.specs.Sets.{has}
use Rattle.sets.proofs.Tests.{clash, not_so, and_i, and_l, and_r, or_l, or_r, or_cases, or_fails, or_fails_l, or_fails_r, neg_i, neg_e}
use Rattle.sets.proofs.Digits.{has_below}
use Rattle.sets.proofs.Quantifiers.{any_none}
use Rattle.order.specs.Order.{Relation, at_least, comparable, Strict, InUse, edge}
use Rattle.order.specs.Effects.{created, removed, inserted, cut}

-- n is in no pair: what a number that is not in use is
pub record Free (f : Relation) (n : ℕ) : Type 0 where
  pub under : (x : ℕ) → f x n ≡ false
  pub over : (y : ℕ) → f n y ≡ false

-- a is senior to b with no role strictly between
pub record Edge (f : Relation) (a b : ℕ) : Type 0 where
  pub pair : f a b ≡ true
  pub bare : (c : ℕ) → f a c ≡ true → f c b ≡ true → ⊥

-- a number that is not in use is in no pair
pub unused_free : {f : Relation} {used : ℕ} (n : ℕ) → InUse used f → has used n ≡ false → Free f n
unused_free n h e = record { under = λ x. not_so _ (λ t. clash (h.below x n t) e); over = λ y. not_so _ (λ t. clash (h.above n y t) e) }

-- what the test of an edge says, where the roles in use are below 64
pub edge_means : (f : Relation) (used a b : ℕ) → used < 2 ^ 64 → InUse used f → edge f a b ≡ true → Edge f a b
unfolding edge
edge_means f used a b l h e =
    record {
      pair = and_l _ _ e;
      bare = λ c s t. clash (and_i _ _ s t) (any_none 64 _ (neg_e _ (and_r _ _ e)) c (has_below 64 used c l (h.below a c s)));
    }

-- two numbers that are neither equal nor comparable
pub apart_not_below : (f : Relation) (a b : ℕ) → comparable f a b ≡ false → at_least f b a ≡ false
unfolding comparable at_least
apart_not_below f a b e =
    or_fails _ _ (ne_eqb b a (λ q. eqb-false a b (or_fails_l _ _ e) (sym q))) (or_fails_r _ _ (or_fails_r _ _ e))

module _ (f : Relation) (h : Strict f) where
  at_least_trans : (a b c : ℕ) → at_least f a b ≡ true → at_least f b c ≡ true → at_least f a c ≡ true
  unfolding at_least
  at_least_trans a b c s t =
      ⊎_elim (λ (e : eqb a b ≡ true). subst (λ (x : ℕ). (eqb x c or f x c) ≡ true) (sym (eqb-true a b e)) t)
      (λ (u : f a b ≡ true). ⊎_elim (λ (e : eqb b c ≡ true). or_r _ _ (subst (λ (x : ℕ). f a x ≡ true) (eqb-true b c e) u))
      (λ (v : f b c ≡ true). or_r _ _ (h.transitive a b c u v)) (or_cases _ _ t)) (or_cases _ _ s)

  senior-at_least : (a b : ℕ) → f a b ≡ true → at_least f a b ≡ true
  unfolding at_least
  senior-at_least a b s = or_r _ _ s

  -- senior to one that is at least b, or at least one that is senior to b: senior to b
  pub over_least : (a b c : ℕ) → f a b ≡ true → at_least f b c ≡ true → f a c ≡ true
  unfolding at_least
  over_least a b c s t =
      ⊎_elim (λ (e : eqb b c ≡ true). subst (λ (x : ℕ). f a x ≡ true) (eqb-true b c e) s) (λ (v : f b c ≡ true). h.transitive a b c s v) (or_cases _ _ t)

  pub least_over : (a b c : ℕ) → at_least f a b ≡ true → f b c ≡ true → f a c ≡ true
  unfolding at_least
  least_over a b c s t =
      ⊎_elim (λ (e : eqb a b ≡ true). subst (λ (x : ℕ). f x c ≡ true) (sym (eqb-true a b e)) t) (λ (v : f a b ≡ true). h.transitive a b c v t) (or_cases _ _ s)

  -- ---- kind 7
  pub insert_strict : (a b : ℕ) → comparable f a b ≡ false → Strict (inserted f a b)
  unfolding inserted
  insert_strict a b e =
      record {
        irreflexive = λ x. not_so _ (λ s. ⊎_elim (λ (u : f x x ≡ true). clash u (h.irreflexive x))
            (λ (u : (at_least f x a and at_least f b x) ≡ true).
            clash (at_least_trans b x a (and_r _ _ u) (and_l _ _ u)) (apart_not_below f a b e)) (or_cases _ _ s));
        transitive = λ x y z s t.
            ⊎_elim
            (λ (u : f x y ≡ true). ⊎_elim (λ (v : f y z ≡ true). or_l _ _ (h.transitive x y z u v))
            (λ (v : (at_least f y a and at_least f b z) ≡ true).
            or_r _ _ (and_i _ _ (at_least_trans x y a (senior-at_least x y u) (and_l _ _ v)) (and_r _ _ v))) (or_cases _ _ t))
            (λ (u : (at_least f x a and at_least f b y) ≡ true). or_r _ _ (and_i _ _ (and_l _ _ u)
            (⊎_elim (λ (v : f y z ≡ true). at_least_trans b y z (and_r _ _ u) (senior-at_least y z v))
            (λ (v : (at_least f y a and at_least f b z) ≡ true). and_r _ _ v) (or_cases _ _ t))))
            (or_cases _ _ s);
      }

  -- ---- kind 8
  pub cut_strict : (a b : ℕ) → Edge f a b → Strict (cut f a b)
  unfolding cut
  cut_strict a b e =
      record {
        irreflexive = λ x. not_so _ (λ s. clash (and_l _ _ s) (h.irreflexive x));
        transitive = λ x y z s t.
            and_i _ _ (h.transitive x y z (and_l _ _ s) (and_l _ _ t))
            (neg_i _ (not_so _ (λ q. e.bare y
            (subst (λ (v : ℕ). f v y ≡ true) (eqb-true x a (and_l _ _ q)) (and_l _ _ s))
            (subst (λ (v : ℕ). f y v ≡ true) (eqb-true z b (and_r _ _ q)) (and_l _ _ t)))));
      }

  -- ---- kind 6
  pub remove_strict : (a : ℕ) → Strict (removed f a)
  unfolding removed
  remove_strict a =
      record {
        irreflexive = λ x. not_so _ (λ s. clash (and_l _ _ s) (h.irreflexive x));
        transitive = λ x y z s t.
            and_i _ _ (h.transitive x y z (and_l _ _ s) (and_l _ _ t))
            (neg_i _ (or_fails _ _ (or_fails_l _ _ (neg_e _ (and_r _ _ s))) (or_fails_r _ _ (neg_e _ (and_r _ _ t)))));
      }

  -- ---- kind 5: a pair after is one of before, or ends in the new role from above, or begins with it
  module _ (n a b : ℕ) (over : f a b ≡ true) (new : Free f n) where
    -- the new role is neither a nor above a, neither b nor below b
    not_above : at_least f n a ≡ false
    unfolding at_least
    not_above = or_fails _ _ (ne_eqb n a (λ q. clash over (subst (λ (x : ℕ). f x b ≡ false) q (new.over b)))) (new.over a)

    not_below : at_least f b n ≡ false
    unfolding at_least
    not_below = or_fails _ _ (ne_eqb b n (λ q. clash over (subst (λ (x : ℕ). f a x ≡ false) (sym q) (new.under a)))) (new.under b)

    -- at least a, and so senior to whatever b is at least
    through : (x y : ℕ) → at_least f x a ≡ true → at_least f b y ≡ true → f x y ≡ true
    through x y s t = least_over x a y s (over_least a b y over t)

    data Pair (x y : ℕ) : Type 0 where
      old : f x y ≡ true → Pair x y
      above : at_least f x a ≡ true → y ≡ n → Pair x y
      below : x ≡ n → at_least f b y ≡ true → Pair x y

    pair_of : (x y : ℕ) → created f n a b x y ≡ true → Pair x y
    unfolding created
    pair_of x y s =
        ⊎_elim (λ (u : f x y ≡ true). old u)
        (λ (w : ((at_least f x a and eqb y n) or (eqb x n and at_least f b y)) ≡ true).
        ⊎_elim (λ (u : (at_least f x a and eqb y n) ≡ true). above (and_l _ _ u) (eqb-true y n (and_r _ _ u)))
        (λ (u : (eqb x n and at_least f b y) ≡ true). below (eqb-true x n (and_l _ _ u)) (and_r _ _ u)) (or_cases _ _ w)) (or_cases _ _ s)

    of_pair : (x y : ℕ) → Pair x y → created f n a b x y ≡ true
    unfolding created
    of_pair x y (old u) = or_l _ _ u
    of_pair x y (above u e) = or_r _ _ (or_l _ _ (and_i _ _ u (eq-eqb y n e)))
    of_pair x y (below e u) = or_r _ _ (or_r _ _ (and_i _ _ (eq-eqb x n e) u))

    -- from n nothing old goes on, and nothing old comes to it
    none_from : {A : Type 0} {x y : ℕ} → x ≡ n → f x y ≡ true → A
    none_from {y = y} e s = clash s (subst (λ (v : ℕ). f v y ≡ false) (sym e) (new.over y))

    none_to : {A : Type 0} {x y : ℕ} → y ≡ n → f x y ≡ true → A
    none_to {x = x} e s = clash s (subst (λ (v : ℕ). f x v ≡ false) (sym e) (new.under x))

    no_above : {A : Type 0} {x : ℕ} → x ≡ n → at_least f x a ≡ true → A
    no_above e s = clash s (subst (λ (v : ℕ). at_least f v a ≡ false) (sym e) not_above)

    no_below : {A : Type 0} {y : ℕ} → y ≡ n → at_least f b y ≡ true → A
    no_below e s = clash s (subst (λ (v : ℕ). at_least f b v ≡ false) (sym e) not_below)

    not_self : (x : ℕ) → Pair x x → ⊥
    not_self x (old u) = clash u (h.irreflexive x)
    not_self x (above u e) = no_above e u
    not_self x (below e u) = no_below e u

    chain : (x y z : ℕ) → Pair x y → Pair y z → Pair x z
    chain x y z (old u) (old v) = old (h.transitive x y z u v)
    chain x y z (old u) (above v e) = above (at_least_trans x y a (senior-at_least x y u) v) e
    chain x y z (old u) (below e v) = none_to e u
    chain x y z (above u e) (old v) = none_from e v
    chain x y z (above u e) (above v d) = no_above e v
    chain x y z (above u e) (below d v) = old (through x z u v)
    chain x y z (below e u) (old v) = below e (at_least_trans b y z u (senior-at_least y z v))
    chain x y z (below e u) (above v d) = clash (through y y v u) (h.irreflexive y)
    chain x y z (below e u) (below d v) = no_below d u

    pub create_strict : Strict (created f n a b)
    create_strict =
        record {
          irreflexive = λ x. not_so _ (λ s. not_self x (pair_of x x s));
          transitive = λ x y z s t. of_pair x z (chain x y z (pair_of x y s) (pair_of y z t));
        }

-- ---- pairs stay between roles in use
module _ (f : Relation) (used : ℕ) (h : InUse used f) where
  least_used : (x a : ℕ) → has used a ≡ true → at_least f x a ≡ true → has used x ≡ true
  unfolding at_least
  least_used x a m s =
      ⊎_elim (λ (e : eqb x a ≡ true). ap (has used) (eqb-true x a e) ∙ m) (λ (u : f x a ≡ true). h.above x a u) (or_cases _ _ s)

  used_least : (b y : ℕ) → has used b ≡ true → at_least f b y ≡ true → has used y ≡ true
  unfolding at_least
  used_least b y m s =
      ⊎_elim (λ (e : eqb b y ≡ true). ap (has used) (sym (eqb-true b y e)) ∙ m) (λ (u : f b y ≡ true). h.below b y u) (or_cases _ _ s)

  pub insert_used : (a b : ℕ) → has used a ≡ true → has used b ≡ true → InUse used (inserted f a b)
  unfolding inserted
  insert_used a b ma mb =
      record {
        above = λ x y s. ⊎_elim (λ (u : f x y ≡ true). h.above x y u)
            (λ (u : (at_least f x a and at_least f b y) ≡ true). least_used x a ma (and_l _ _ u)) (or_cases _ _ s);
        below = λ x y s. ⊎_elim (λ (u : f x y ≡ true). h.below x y u)
            (λ (u : (at_least f x a and at_least f b y) ≡ true). used_least b y mb (and_r _ _ u)) (or_cases _ _ s);
      }

  pub cut_used : (a b : ℕ) → InUse used (cut f a b)
  unfolding cut
  cut_used a b = record { above = λ x y s. h.above x y (and_l _ _ s); below = λ x y s. h.below x y (and_l _ _ s) }

  -- the roles in use after: all but a
  pub remove_used : (a after : ℕ) → ((x : ℕ) → has used x ≡ true → eqb x a ≡ false → has after x ≡ true) → InUse after (removed f a)
  unfolding removed
  remove_used a after m =
      record {
        above = λ x y s. m x (h.above x y (and_l _ _ s)) (or_fails_l _ _ (neg_e _ (and_r _ _ s)));
        below = λ x y s. m y (h.below x y (and_l _ _ s)) (or_fails_r _ _ (neg_e _ (and_r _ _ s)));
      }

  -- the roles in use after: those before, and n
  pub create_used : (n a b after : ℕ) → ((x : ℕ) → has used x ≡ true → has after x ≡ true) → has after n ≡ true
      → has used a ≡ true → has used b ≡ true → InUse after (created f n a b)
  unfolding created
  create_used n a b after m new ma mb =
      record {
        above = λ x y s. ⊎_elim (λ (u : f x y ≡ true). m x (h.above x y u))
            (λ (w : ((at_least f x a and eqb y n) or (eqb x n and at_least f b y)) ≡ true).
            ⊎_elim (λ (u : (at_least f x a and eqb y n) ≡ true). m x (least_used x a ma (and_l _ _ u)))
            (λ (u : (eqb x n and at_least f b y) ≡ true). ap (has after) (eqb-true x n (and_l _ _ u)) ∙ new) (or_cases _ _ w)) (or_cases _ _ s);
        below = λ x y s. ⊎_elim (λ (u : f x y ≡ true). m y (h.below x y u))
            (λ (w : ((at_least f x a and eqb y n) or (eqb x n and at_least f b y)) ≡ true).
            ⊎_elim (λ (u : (at_least f x a and eqb y n) ≡ true). ap (has after) (eqb-true y n (and_r _ _ u)) ∙ new)
            (λ (u : (eqb x n and at_least f b y) ≡ true). m y (used_least b y mb (and_r _ _ u))) (or_cases _ _ w)) (or_cases _ _ s);
      }
