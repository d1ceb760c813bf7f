-- Document 01, "Order, ranges, tables". Roles and administrative roles share everything here.
use Rattle.std.specs.Prelude.{◌≡◌, Bool, true, false, List, [], ◌∷◌, ℕ, zero, suc, eqb, length, get_or}
use Rattle.sets.specs.Tests.{◌and◌, ◌or◌, neg}
use Rattle.sets.specs.Sets.{has, any, least, set_of}

-- which number is senior to which
abbrev pub Relation : Type 0
Relation = ℕ → ℕ → Bool

-- "The policy holds the whole order": for each role the set of its strict juniors. a is senior to b.
unfoldable pub senior : List ℕ → Relation
senior juniors a b = has (get_or juniors a 0) b

-- "≤" means equal or junior: b ≤ a
unfoldable pub at_least : Relation → Relation
at_least f a b = eqb a b or f a b

-- some member of a set is b or senior to b: "the user holds, explicitly, the row's administrative role or a senior of it",
-- "the user is explicitly in it or a senior"
unfoldable pub reaches : Relation → ℕ → ℕ → Bool
reaches f set b = any 64 (λ a. has set a and at_least f a b)

-- the members of a set and all their juniors: what its members are equal or senior to
unfoldable pub reached : Relation → ℕ → ℕ
reached f set = set_of 64 (reaches f set)

-- a and b are equal or comparable
unfoldable pub comparable : Relation → Relation
comparable f a b = eqb a b or f a b or f b a

-- "The hierarchy is a strict order: nothing is senior to itself, and senior-of-senior is senior."
pub record Strict (f : Relation) : Type 0 where
  pub irreflexive : (a : ℕ) → f a a ≡ false
  pub transitive : (a b c : ℕ) → f a b ≡ true → f b c ≡ true → f a c ≡ true

-- the same as a test: a is its own senior, or has a junior whose junior it lacks
unfoldable pub faulty : Relation → ℕ → Bool
faulty f a = f a a or any 64 (λ b. f a b and any 64 (λ c. f b c and neg (f a c)))

-- the first role that is faulty, and the number of rows where none is
unfoldable pub first_fault : List ℕ → ℕ
first_fault juniors = least (length juniors) (faulty (senior juniors))

-- "An edge (a, b) is a pair with a senior to b and no role strictly between."
unfoldable pub edge : Relation → ℕ → ℕ → Bool
edge f a b = f a b and neg (any 64 (λ c. f a c and f c b))

-- pairs stand only between members of a set: the roles in use
pub record InUse (used : ℕ) (f : Relation) : Type 0 where
  pub above : (a b : ℕ) → f a b ≡ true → has used a ≡ true
  pub below : (a b : ℕ) → f a b ≡ true → has used b ≡ true

-- the list of f at i and the w - 1 numbers after it
unfoldable pub tab_from : ℕ → ℕ → (ℕ → ℕ) → List ℕ
tab_from i zero f = []
tab_from i (suc w) f = f i ∷ tab_from (suc i) w f

-- the order on w numbers with exactly the pairs of f, as the policy holds it
unfoldable pub relate : ℕ → Relation → List ℕ
relate w f = tab_from 0 w (λ a. set_of w (f a))
