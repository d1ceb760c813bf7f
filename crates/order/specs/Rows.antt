-- What the two loops of the effects leave, by pairs; and the same pairs seen from the junior.
use Rattle.std.specs.Prelude.{◌≡◌, List, ℕ, ◌<◌, eqb, get_or}
use Rattle.sets.specs.Tests.{◌and◌, ◌or◌, neg}
use Rattle.sets.specs.Sets.{has, Exactly}
use Rattle.order.specs.Order.{Relation, senior, at_least}

-- the pairs of the 64 rows are exactly those of f
pub record Pairs (juniors : List ℕ) (f : Relation) : Type 0 where
  pub pair : (x y : ℕ) → x < 64 → senior juniors x y ≡ f x y

-- a and each senior of a has gained the members of a set
abbrev pub Spread : List ℕ → ℕ → ℕ → List ℕ → Type 0
Spread juniors a gained r = Pairs r (λ x y. senior juniors x y or (at_least (senior juniors) x a and has gained y))

-- a has gone from each set of juniors
abbrev pub Dropped : List ℕ → ℕ → List ℕ → Type 0
Dropped juniors a r = Pairs r (λ x y. senior juniors x y and neg (eqb y a))

-- a has joined the seniors of each member of a set
pub record Raised (before : List ℕ) (a row : ℕ) (after : List ℕ) : Type 0 where
  pub seniors : (b : ℕ) → Exactly (get_or after b 0) (λ x. (eqb x a and has row b) or has (get_or before b 0) x)

-- of each number the set of its seniors; a number that no role has has none
pub record Above (juniors above : List ℕ) : Type 0 where
  pub seniors : (b : ℕ) → Exactly (get_or above b 0) (λ a. senior juniors a b)
