-- A number of the policy file. Document 01, "The policy file":
-- "Numbers are in groups of seven bits, lowest group first, top bit set on all bytes but the last, shortest form, at most 64 bits."
-- s is the input, a list of bytes; at is the place of the number's first byte.
use Rattle.std.specs.Prelude.{ℕ, zero, suc, ◌+◌, ◌-◌, ◌*◌, ◌/◌, ◌%◌, ◌^◌, ◌≡◌, Bool, true, false, List, [], ◌∷◌, ltb, leb, eqb, length, get_or, take, drop, Result, Ok, Err}
use Rattle.sets.specs.Tests.{◌and◌, ◌or◌, pick}
use Rattle.sets.specs.Sets.{least}
use Rattle.number.specs.declared.NumberError.{NumberError}
use Rattle.number.specs.declared.NumberError.TheVariants.{Ended, Malformed, Unfit}

-- What stands at a place: a number and the place past it, or the refusal's number and its place.
pub data Num : Type 0 where
  Value : ℕ → ℕ → Num
  Refused : ℕ → ℕ → Num

-- ---- reading

-- the byte n places past the number's first; past the end of the input it is 0
abbrev pub byte : List ℕ → ℕ → ℕ → ℕ
byte s at n = get_or s (at + n) 0

-- "top bit set on all bytes but the last": the byte n places past the first ends the number, since its top bit is not set
abbrev pub ends : List ℕ → ℕ → ℕ → Bool
ends s at n = ltb (byte s at n) 128

-- "at most 64 bits": how far past the first the last byte stands. It is the first that ends the number, or the tenth
unfoldable pub last_of : List ℕ → ℕ → ℕ
last_of s at = least 9 (ends s at)

-- "groups of seven bits, lowest group first": the value of the first n groups
unfoldable pub value_of : List ℕ → ℕ → ℕ → ℕ
value_of s at zero = 0
value_of s at (suc n) = value_of s at n + byte s at n % 128 * 128 ^ n

-- what the reader knows before it reads the last byte: its place, the value of the groups before it, and what its own group counts
pub record Before (s : List ℕ) (at last value scale : ℕ) : Type 0 where
  pub place : last ≡ at + last_of s at
  pub value_is : value ≡ value_of s at (last_of s at)
  pub scale_is : scale ≡ 128 ^ last_of s at

-- "21 not shortest": n bytes stand before the last, b, and it is a group of nothing
unfoldable pub is_long : ℕ → ℕ → Bool
is_long n b = ltb 0 n and eqb b 0

-- "or over 64 bits; a tenth byte above 1 is over"
unfoldable pub is_over : ℕ → ℕ → Bool
is_over n b = eqb n 9 and ltb 1 b

-- What a number is whose last byte stands n places past its first.
-- "20 the input ends inside or before a number (place: input length)"
-- "21 not shortest or over 64 bits", "(21, 22: place of the number's first byte)"
-- else the value of all its groups, with the place past them
unfoldable pub ends_with : List ℕ → ℕ → ℕ → Num
ends_with s at n =
    pick (leb (length s) (at + n)) (Refused 20 (length s))
    (pick (is_long n (byte s at n) or is_over n (byte s at n)) (Refused 21 at)
    (Value (value_of s at (suc n)) (at + n + 1)))

-- What stands at a place.
unfoldable pub num_at : List ℕ → ℕ → Num
num_at s at = ends_with s at (last_of s at)

-- "for one number 21 comes before 22": a number that passes the test t, or 22 at its first byte; 20 and 21 stay
abbrev pub tested : (ℕ → Bool) → ℕ → Num → Num
tested t at (Value x next) = pick (t x) (Value x next) (Refused 22 at)
tested t at (Refused c p) = Refused c p

-- what the reader answers, in document 01's numbers
abbrev pub number_of : NumberError → ℕ
number_of (Ended p) = 20
number_of (Malformed p) = 21
number_of (Unfit p) = 22

abbrev pub place_of : NumberError → ℕ
place_of (Ended p) = p
place_of (Malformed p) = p
place_of (Unfit p) = p

abbrev pub as_num : Result (ℕ × ℕ) NumberError → Num
as_num (Ok r) = Value r.0 r.1
as_num (Err e) = Refused (number_of e) (place_of e)

-- "that part of the caller's own file": the bytes from one place up to another
abbrev pub part : List ℕ → ℕ → ℕ → List ℕ
part s at e = take (e - at) (drop at s)

-- ---- writing

-- "groups of seven bits, lowest group first, top bit set on all bytes but the last, shortest form": the bytes of x, n at most before the last.
-- Below 128, x is its own last byte; else its lowest group comes first, with the top bit set, and then the groups of the rest.
unfoldable pub groups_of : ℕ → ℕ → List ℕ
groups_of zero x = x ∷ []
groups_of (suc n) x = elim (ltb x 128) [ true ↦ x ∷ [] | false ↦ (x % 128 + 128) ∷ groups_of n (x / 128) ]

-- "at most 64 bits": nine groups hold 63, and one bit is left for the tenth
unfoldable pub num_bytes : ℕ → List ℕ
num_bytes x = groups_of 9 x
