-- Each of the four effects keeps a strict order strict, and its pairs between roles in use, under the condition that document 01 gives for it.
-- Carried from relations to the order as the policy holds it.
-- Assumes nothing.
use mathlib.Core.Path.{◌≡◌, refl, ◌∙◌}
use mathlib.Core.Bool.{true, false}
use Prim.Native.Nat.{ℕ, ◌<◌, ◌^◌}
use borrow.Author.Tests.{eq-eqb}
use Rattle.sets.specs.Sets.{has}
use Rattle.sets.proofs.Tests.{and_i, or_l, or_r, neg_i}
use Rattle.sets.proofs.Digits.{has_below}
use Rattle.sets.proofs.Builders.{has-set_of, set_of_lt}
use Rattle.order.specs.declared.Order.{Order}
use Rattle.order.specs.Order.{Relation, senior, comparable, Strict, InUse, edge, relate}
use Rattle.order.specs.Effects.{create, remove, insert, cut_edge}
use Rattle.order.proofs.Relations.{unused_free, edge_means, insert_strict, cut_strict, remove_strict, create_strict, insert_used, cut_used, remove_used, create_used}
use Rattle.order.proofs.Lists.{in_relate}

-- a strict order whose pairs stand between roles in use, of which there are at most 64
pub record Sound (o : Order) : Type 0 where
  pub strict : Strict (senior o.juniors)
  pub in_use : InUse o.used (senior o.juniors)
  pub width : o.used < 2 ^ 64

relate_strict : (w : ℕ) (f : Relation) → Strict f → Strict (senior (relate w f))
relate_strict w f h =
    record {
      irreflexive = λ a. Rattle.sets.proofs.Tests.not_so _ (λ s. Rattle.sets.proofs.Tests.clash (in_relate w f a a s).pair (h.irreflexive a));
      transitive = λ a b c s t.
          let p = in_relate w f a b s in
          let q = in_relate w f b c t in
          Rattle.order.proofs.Lists.senior-relate w f a c p.first q.second ∙ h.transitive a b c p.pair q.pair;
    }

relate_used : (w : ℕ) (f : Relation) (used : ℕ) → InUse used f → InUse used (senior (relate w f))
relate_used w f used h =
    record { above = λ a b s. h.above a b (in_relate w f a b s).pair; below = λ a b s. h.below a b (in_relate w f a b s).pair }

module _ (o : Order) (h : Sound o) where
  -- kind 7: a and b different and not comparable
  pub insert_keeps : (a b : ℕ) → has o.used a ≡ true → has o.used b ≡ true → comparable (senior o.juniors) a b ≡ false → Sound (insert o a b)
  unfolding insert
  insert_keeps a b ma mb e =
      record {
        strict = relate_strict 64 _ (insert_strict _ h.strict a b e);
        in_use = relate_used 64 _ _ (insert_used _ _ h.in_use a b ma mb);
        width = h.width;
      }

  -- kind 8: (a, b) is an edge
  pub cut_keeps : (a b : ℕ) → edge (senior o.juniors) a b ≡ true → Sound (cut_edge o a b)
  unfolding cut_edge
  cut_keeps a b e =
      record {
        strict = relate_strict 64 _ (cut_strict _ h.strict a b (edge_means _ _ a b h.width h.in_use e));
        in_use = relate_used 64 _ _ (cut_used _ _ h.in_use a b);
        width = h.width;
      }

  -- kind 6: any role
  pub remove_keeps : (a : ℕ) → Sound (remove o a)
  unfolding remove
  remove_keeps a =
      record {
        strict = relate_strict 64 _ (remove_strict _ h.strict a);
        in_use = relate_used 64 _ _ (remove_used _ _ h.in_use a _
            (λ x m n. has-set_of 64 _ x (has_below 64 o.used x h.width m) ∙ and_i _ _ m (neg_i _ n)));
        width = set_of_lt 64 _;
      }

  -- kind 5: a senior to b, the number free
  pub create_keeps : (n a b : ℕ) → n < 64 → has o.used n ≡ false → senior o.juniors a b ≡ true → Sound (create o n a b)
  unfolding create
  create_keeps n a b l new e =
      record {
        strict = relate_strict 64 _ (create_strict _ h.strict n a b e (unused_free n h.in_use new));
        in_use = relate_used 64 _ _ (create_used _ _ h.in_use n a b _
            (λ x m. has-set_of 64 _ x (has_below 64 o.used x h.width m) ∙ or_r _ _ m)
            (has-set_of 64 _ n l ∙ or_l _ _ (eq-eqb n n refl)) (h.in_use.above a b e) (h.in_use.below a b e));
        width = set_of_lt 64 _;
      }
