-- The order seen from the juniors: c holds of each role its seniors, where o holds its juniors. An effect on o, and the same effect on c with its
-- two roles exchanged, leave two orders of which one is the other seen from the juniors. So who keeps both needs no search after an effect.
-- Assumes nothing.
use mathlib.Core.Path.{◌≡◌, refl, sym, ap₂, ◌∙◌}
use mathlib.Core.Bool.{Bool, true, false}
use Prim.Native.Nat.{ℕ}
use Rattle.sets.specs.Tests.{◌and◌, ◌or◌, neg}
use Rattle.sets.proofs.Tests.{same_test, eqb_sym, and_comm}
use Rattle.order.specs.declared.Order.{Order}
use Rattle.order.specs.Order.{Relation, senior, at_least, relate}
use Rattle.order.specs.Effects.{created, inserted, cut, create, insert, cut_edge}
use Rattle.order.specs.Rows.{Above}
use Rattle.order.proofs.Lists.{senior-relate, in_relate}

-- two relations that are each other's converse, as lists
relate_converse : (f g : Relation) → ((x y : ℕ) → g y x ≡ f x y) → Above (relate 64 f) (relate 64 g)
unfolding senior
relate_converse f g e = record {
  seniors = λ y x.
      same_test _ _
      (λ t. let r = in_relate 64 g y x t in senior-relate 64 f x y r.second r.first ∙ sym (e x y) ∙ r.pair)
      (λ t. let r = in_relate 64 f x y t in senior-relate 64 g y x r.second r.first ∙ e x y ∙ r.pair);
}

or_comm : (p q : Bool) → (p or q) ≡ (q or p)
unfolding ◌or◌
or_comm true true = refl
or_comm true false = refl
or_comm false true = refl
or_comm false false = refl

module _ (o c : Order) (h : Above o.juniors c.juniors) where
  turned : (x y : ℕ) → senior c.juniors y x ≡ senior o.juniors x y
  unfolding senior
  turned x y = h.seniors y x

  least_turned : (x y : ℕ) → at_least (senior c.juniors) y x ≡ at_least (senior o.juniors) x y
  unfolding at_least
  least_turned x y = ap₂ ◌or◌ (eqb_sym y x) (turned x y)

  -- kind 5
  pub create_converse : (n a b : ℕ) → Above (create o n a b).juniors (create c n b a).juniors
  unfolding create created
  create_converse n a b =
      relate_converse _ _ (λ x y. ap₂ ◌or◌ (turned x y)
      (rw (least_turned b y, least_turned x a) (or_comm _ _ ∙ ap₂ ◌or◌ (and_comm _ _) (and_comm _ _))))

  -- kind 7
  pub insert_converse : (a b : ℕ) → Above (insert o a b).juniors (insert c b a).juniors
  unfolding insert inserted
  insert_converse a b =
      relate_converse _ _ (λ x y. ap₂ ◌or◌ (turned x y) (rw (least_turned b y, least_turned x a) (and_comm _ _)))

  -- kind 8
  pub cut_converse : (a b : ℕ) → Above (cut_edge o a b).juniors (cut_edge c b a).juniors
  unfolding cut_edge cut
  cut_converse a b = relate_converse _ _ (λ x y. ap₂ (λ (p q : Bool). p and neg q) (turned x y) (and_comm _ _))
