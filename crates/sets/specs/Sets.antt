-- Sets of small numbers. Document 01, "The policy file": "A set is a number with bit n for member n."
-- Everything is a test that computes. Every statement on a set goes through `has`, the one notion of membership.
use Rattle.std.specs.Prelude.{◌≡◌, Bool, true, false, ℕ, zero, suc, ◌+◌, ◌/◌, ◌%◌, ◌^◌, eqb}
use Rattle.sets.specs.Tests.{◌and◌, ◌or◌, neg, ◌implies◌, ◌iff◌, pick}

-- n is a member of the set s: bit n of s is 1
unfoldable pub has : ℕ → ℕ → Bool
has s n = eqb (s / 2 ^ n % 2) 1

-- each number below w passes the test f
unfoldable pub all : ℕ → (ℕ → Bool) → Bool
all zero f = true
all (suc w) f = all w f and f w

-- some number below w passes the test f
unfoldable pub any : ℕ → (ℕ → Bool) → Bool
any zero f = false
any (suc w) f = any w f or f w

-- how many numbers below w pass the test f
unfoldable pub count : ℕ → (ℕ → Bool) → ℕ
count zero f = 0
count (suc w) f = count w f + pick (f w) 1 0

-- the lowest number below w that passes the test f, and w where none does
unfoldable pub least : ℕ → (ℕ → Bool) → ℕ
least zero f = 0
least (suc w) f = pick (f zero) 0 (suc (least w (λ n. f (suc n))))

-- the set of the numbers below w that pass the test f
unfoldable pub set_of : ℕ → (ℕ → Bool) → ℕ
set_of zero f = 0
set_of (suc w) f = set_of w f + pick (f w) (2 ^ w) 0

-- the members of s are exactly the numbers that pass the test f
abbrev pub Exactly : ℕ → (ℕ → Bool) → Type 0
Exactly s f = (n : ℕ) → has s n ≡ f n

-- each member of s below w is a member of t
unfoldable pub subset : ℕ → ℕ → ℕ → Bool
subset w s t = all w (λ n. has s n implies has t n)

-- s and t have the same members below w among those of o
unfoldable pub agreeing : ℕ → ℕ → ℕ → ℕ → Bool
agreeing w s t o = all w (λ n. has o n implies (has s n iff has t n))

-- the lowest member of s below w, and w where there is none
unfoldable pub lowest : ℕ → ℕ → ℕ
lowest w s = least w (has s)

-- the lowest number below w that is no member of s, and w where each is one
unfoldable pub lowest_free : ℕ → ℕ → ℕ
lowest_free w s = least w (λ n. neg (has s n))

-- how many members s has below w
unfoldable pub size : ℕ → ℕ → ℕ
size w s = count w (has s)
