-- What a number of the policy file has to be. Document 01, "The policy file", number 22:
-- "a first number other than 1, a count over its size, an administrative role above 15, a set or row naming what is not in use, brackets above 3".
-- s is the input, a list of bytes; at is the place of the number's first byte.
use Rattle.std.specs.Prelude.{ℕ, List, leb}
use Rattle.sets.specs.Sets.{has, subset}
use Rattle.number.specs.Number.{Num, num_at, tested}

-- "A set is a number with bit n for member n", and it names members of `of` alone
unfoldable pub set_at : List ℕ → ℕ → ℕ → Num
set_at s of at = tested (λ x. subset 64 x of) at (num_at s at)

-- a count within its size, and brackets that are not above 3
unfoldable pub count_at : List ℕ → ℕ → ℕ → Num
count_at s most at = tested (λ x. leb x most) at (num_at s at)

-- what a row names: a member of `of`
unfoldable pub member_at : List ℕ → ℕ → ℕ → Num
member_at s of at = tested (has of) at (num_at s at)
