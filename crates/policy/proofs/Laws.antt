-- The permission question of whole sets: a user may exercise a permission exactly if what the roles held reach meets what is granted.
-- Assumes nothing.
use mathlib.Core.Path.{◌≡◌, ap, ◌∙◌}
use mathlib.Core.Bool.{Bool}
use Prim.Native.Nat.{ℕ}
use Rattle.sets.specs.Tests.{◌and◌}
use Rattle.sets.specs.Sets.{has, any}
use Rattle.sets.proofs.Tests.{and_comm}
use Rattle.sets.proofs.Quantifiers.{any_same}
use Rattle.sets.proofs.Builders.{has-set_of}
use Rattle.order.specs.Order.{Relation, reached}
use Rattle.policy.specs.Question.{may_exercise}

pub reached_meets : (f : Relation) (held granted : ℕ) → any 64 (λ x. has (reached f held) x and has granted x) ≡ may_exercise f held granted
unfolding reached may_exercise
reached_meets f held granted =
    any_same 64 _ _ (λ x l. ap (λ (b : Bool). b and has granted x) (has-set_of 64 _ x l) ∙ and_comm _ _)
