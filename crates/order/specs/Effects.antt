-- The effects of kinds 5 to 8 on the hierarchy. Document 01, "The eight requests". Each says which pairs (x, y), x senior to y, it leaves.
use Rattle.std.specs.Prelude.{ℕ, eqb}
use Rattle.sets.specs.Tests.{◌and◌, ◌or◌, neg}
use Rattle.sets.specs.Sets.{has, set_of}
use Rattle.order.specs.declared.Order.{Order}
use Rattle.order.specs.Order.{Relation, senior, at_least, relate}

-- Kind 5: "the new role gets a and all a's seniors above it, b and all b's juniors below it". n is the new role.
unfoldable pub created : Relation → ℕ → ℕ → ℕ → Relation
created f n a b x y = f x y or (at_least f x a and eqb y n) or (eqb x n and at_least f b y)

-- "Kind 6 removes the role; all other pairs stay."
unfoldable pub removed : Relation → ℕ → Relation
removed f a x y = f x y and neg (eqb x a or eqb y a)

-- "Kind 7 makes a and each senior of a senior to b and each junior of b."
unfoldable pub inserted : Relation → ℕ → ℕ → Relation
inserted f a b x y = f x y or (at_least f x a and at_least f b y)

-- "Kind 8 removes the one pair (a, b)."
unfoldable pub cut : Relation → ℕ → ℕ → Relation
cut f a b x y = f x y and neg (eqb x a and eqb y b)

-- The same on the whole order: the roles in use, and the pairs.
unfoldable pub create : Order → ℕ → ℕ → ℕ → Order
create o n a b =
    record {
      used = set_of 64 (λ x. eqb x n or has o.used x);
      juniors = relate 64 (created (senior o.juniors) n a b);
    }

unfoldable pub remove : Order → ℕ → Order
remove o a =
    record {
      used = set_of 64 (λ x. has o.used x and neg (eqb x a));
      juniors = relate 64 (removed (senior o.juniors) a);
    }

unfoldable pub insert : Order → ℕ → ℕ → Order
insert o a b = record { used = o.used; juniors = relate 64 (inserted (senior o.juniors) a b) }

unfoldable pub cut_edge : Order → ℕ → ℕ → Order
cut_edge o a b = record { used = o.used; juniors = relate 64 (cut (senior o.juniors) a b) }
