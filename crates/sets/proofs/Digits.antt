-- The laws of membership: where a digit stands, what the machine's operations do to it, and that a set is its members. Each over the width.
-- Assumes nothing.
use mathlib.Core.Path.{◌≡◌, refl, sym, ap, ◌∙◌, subst}
use mathlib.Core.Logic.{◌⊎◌, inl, inr, ⊎_elim}
use mathlib.Core.Bool.{Bool, true, false, true≢false, false≢true}
use Prim.Native.Nat.{ℕ, zero, suc, ◌-◌, ◌*◌, ◌/◌, ◌%◌, ◌^◌, ◌≤◌, ◌<◌, min, max, suc-le-suc, zero-le}
use native.Mathlib.Nat.{div-div-eq-div-mul, mul_comm, pow-suc, mod-lt, div-one, not-suc-le-zero, le_of_suc-le-suc, div-eq_of_lt, lt_of_lt_of_le, zero-lt-suc, one-mul, mod-eq_of_lt, zero-div}
use native.Mathlib.Omega.{arith}
use lib.Arith.{digits_mod, lt-one}
use lib.Pow.{pow_pos, pow_mono, pow-lt}
use lib.Bits.{bit_and, bit_or, or_shr, and_shr, or_step, and_step}
use lib.Dec.{eqb, eqb-suc-zero, eqb-zero-suc, eqb-suc-suc}
use Rattle.sets.specs.Tests.{◌and◌, ◌or◌, neg}
use Rattle.sets.specs.Sets.{has, Exactly}
use Rattle.sets.proofs.Tests.{and_fails_l}

two_pos : zero < 2
two_pos = zero-lt-suc 1

-- ---- the lowest digit, and the others
has-zero : (s : ℕ) → has s zero ≡ eqb (s % 2) 1
unfolding has
has-zero s = ap (λ (x : ℕ). eqb (x % 2) 1) (div-one s)

has-suc : (s n : ℕ) → has s (suc n) ≡ has (s / 2) n
unfolding has
has-suc s n =
    ap (λ (x : ℕ). eqb (x % 2) 1)
    (ap (λ (x : ℕ). s / x) (pow-suc 2 n ∙ mul_comm (2 ^ n) 2) ∙ sym (div-div-eq-div-mul s 2 (2 ^ n)))

-- the same, where the lowest digit or the half is known by an equation
pub has_low : (s d : ℕ) → s % 2 ≡ d → has s zero ≡ eqb d 1
has_low s d e = has-zero s ∙ ap (λ (x : ℕ). eqb x 1) e

pub has_half : (s h n : ℕ) → s / 2 ≡ h → has s (suc n) ≡ has h n
has_half s h n e = has-suc s n ∙ ap (λ (x : ℕ). has x n) e

pub has_empty : (n : ℕ) → has 0 n ≡ false
unfolding has
has_empty n = ap (λ (x : ℕ). eqb (x % 2) 1) (zero-div (2 ^ n))

-- ---- or, and: one law for any operation that works digit by digit
module _ (op f : ℕ → ℕ → ℕ) (g : Bool → Bool → Bool)
    (shr : (a b k : ℕ) → op a b / 2 ^ k ≡ op (a / 2 ^ k) (b / 2 ^ k))
    (low : (a b : ℕ) → op a b % 2 ≡ f (a % 2) (b % 2))
    (dig : (d e : ℕ) → d < 2 → e < 2 → eqb (f d e) 1 ≡ g (eqb d 1) (eqb e 1)) where
  has_op : (a b n : ℕ) → has (op a b) n ≡ g (has a n) (has b n)
  unfolding has
  has_op a b n =
      ap (λ (x : ℕ). eqb (x % 2) 1) (shr a b n) ∙ ap (λ (x : ℕ). eqb x 1) (low (a / 2 ^ n) (b / 2 ^ n))
      ∙ dig (a / 2 ^ n % 2) (b / 2 ^ n % 2) (mod-lt (a / 2 ^ n) two_pos) (mod-lt (b / 2 ^ n) two_pos)

pub no_digit : {A : Type 0} {d : ℕ} → suc (suc d) < 2 → A
no_digit h = absurd (not-suc-le-zero (le_of_suc-le-suc (le_of_suc-le-suc h)))

max_dig : (d e : ℕ) → d < 2 → e < 2 → eqb (max d e) 1 ≡ (eqb d 1 or eqb e 1)
unfolding ◌or◌
max_dig zero zero h l = refl
max_dig zero (suc zero) h l = refl
max_dig zero (suc (suc e)) h l = no_digit l
max_dig (suc zero) zero h l = refl
max_dig (suc zero) (suc zero) h l = refl
max_dig (suc zero) (suc (suc e)) h l = no_digit l
max_dig (suc (suc d)) e h l = no_digit h

min_dig : (d e : ℕ) → d < 2 → e < 2 → eqb (min d e) 1 ≡ (eqb d 1 and eqb e 1)
unfolding ◌and◌
min_dig zero zero h l = refl
min_dig zero (suc zero) h l = refl
min_dig zero (suc (suc e)) h l = no_digit l
min_dig (suc zero) zero h l = refl
min_dig (suc zero) (suc zero) h l = refl
min_dig (suc zero) (suc (suc e)) h l = no_digit l
min_dig (suc (suc d)) e h l = no_digit h

pub has-or : (a b n : ℕ) → has (bit_or a b) n ≡ (has a n or has b n)
has-or =
    has_op bit_or max ◌or◌ or_shr
    (λ a b. ap (λ (x : ℕ). x % 2) (or_step a b) ∙ digits_mod (bit_or (a / 2) (b / 2)) (omega (arith, mod-lt a two_pos, mod-lt b two_pos)))
    max_dig

pub has-and : (a b n : ℕ) → has (bit_and a b) n ≡ (has a n and has b n)
has-and =
    has_op bit_and min ◌and◌ and_shr
    (λ a b. ap (λ (x : ℕ). x % 2) (and_step a b) ∙ digits_mod (bit_and (a / 2) (b / 2)) (omega (arith, mod-lt a two_pos, mod-lt b two_pos)))
    min_dig

-- ---- the complement at width w
not_dig : (d : ℕ) → d < 2 → eqb (1 - d) 1 ≡ neg (eqb d 1)
unfolding neg
not_dig zero h = refl
not_dig (suc zero) h = refl
not_dig (suc (suc d)) h = no_digit h

not_low : (a x : ℕ) → x % 2 ≡ 1 - a % 2 → eqb (x % 2) 1 ≡ neg (eqb (a % 2) 1)
not_low a x e = ap (λ (d : ℕ). eqb d 1) e ∙ not_dig (a % 2) (mod-lt a two_pos)

pub has_not : (w a n : ℕ) → a < 2 ^ w → n < w → has ((2 ^ w - 1) - a) n ≡ neg (has a n)
has_not zero a n h l = absurd (not-suc-le-zero l)
has_not (suc w) a zero h l =
    has-zero ((2 ^ suc w - 1) - a) ∙ not_low a ((2 ^ suc w - 1) - a) (omega (arith, pow-suc 2 w)) ∙ sym (ap neg (has-zero a))
has_not (suc w) a (suc n) h l =
    has_half ((2 ^ suc w - 1) - a) ((2 ^ w - 1) - a / 2) n (omega (arith, pow-suc 2 w))
    ∙ has_not w (a / 2) n (omega (arith, pow-suc 2 w)) (le_of_suc-le-suc l) ∙ sym (ap neg (has-suc a n))

-- ---- the width
pub lt_or_le : (a b : ℕ) → (a < b) ⊎ (b ≤ a)
lt_or_le a zero = inr zero-le
lt_or_le zero (suc b) = inl (zero-lt-suc b)
lt_or_le (suc a) (suc b) = ⊎_elim (λ l. inl (suc-le-suc l)) (λ l. inr (suc-le-suc l)) (lt_or_le a b)

-- nothing from w on is a member of a number below 2 ^ w
pub has_beyond : (w s n : ℕ) → s < 2 ^ w → w ≤ n → has s n ≡ false
unfolding has
has_beyond w s n h l = ap (λ (x : ℕ). eqb (x % 2) 1) (div-eq_of_lt (lt_of_lt_of_le h (pow_mono l)))

pub has_below : (w s n : ℕ) → s < 2 ^ w → has s n ≡ true → n < w
has_below w s n h e = ⊎_elim (λ l. l) (λ l. absurd (false≢true (sym (has_beyond w s n h l) ∙ e))) (lt_or_le n w)

pub has_minus : (w s t n : ℕ) → s < 2 ^ w → t < 2 ^ w → has (bit_and s ((2 ^ w - 1) - t)) n ≡ (has s n and neg (has t n))
has_minus w s t n hs ht =
    has-and s ((2 ^ w - 1) - t) n
    ∙ ⊎_elim (λ l. ap (λ (b : Bool). has s n and b) (has_not w t n ht l))
    (λ l. and_fails_l _ _ (has_beyond w s n hs l) ∙ sym (and_fails_l _ _ (has_beyond w s n hs l))) (lt_or_le n w)

-- ---- one member
pub has_bit : (m n : ℕ) → has (2 ^ m) n ≡ eqb n m
has_bit zero zero = has_low 1 1 refl
has_bit zero (suc n) = has-suc 1 n ∙ has_empty n ∙ sym (eqb-suc-zero n)
has_bit (suc m) zero = has_low (2 ^ suc m) 0 (omega (arith, pow-suc 2 m)) ∙ sym (eqb-zero-suc m)
has_bit (suc m) (suc n) =
    has_half (2 ^ suc m) (2 ^ m) n (omega (arith, pow-suc 2 m)) ∙ has_bit m n ∙ sym (eqb-suc-suc n m)

-- `1 << m` at width w, as the machine has it
pub has_one : (w m n : ℕ) → m < w → has ((1 * 2 ^ m) % 2 ^ w) n ≡ eqb n m
has_one w m n l =
    ap (λ (x : ℕ). has x n) (mod-eq_of_lt (subst (λ (x : ℕ). x < 2 ^ w) (sym (one-mul (2 ^ m))) (pow-lt l)) ∙ one-mul (2 ^ m)) ∙ has_bit m n

-- ---- a set is its members
same_dig : (d e : ℕ) → d < 2 → e < 2 → eqb d 1 ≡ eqb e 1 → d ≡ e
same_dig zero zero h l q = refl
same_dig zero (suc zero) h l q = absurd (false≢true q)
same_dig zero (suc (suc e)) h l q = no_digit l
same_dig (suc zero) zero h l q = absurd (true≢false q)
same_dig (suc zero) (suc zero) h l q = refl
same_dig (suc zero) (suc (suc e)) h l q = no_digit l
same_dig (suc (suc d)) e h l q = no_digit h

digits_same : (s t : ℕ) → s / 2 ≡ t / 2 → eqb (s % 2) 1 ≡ eqb (t % 2) 1 → s ≡ t
digits_same s t h e = omega (arith, same_dig (s % 2) (t % 2) (mod-lt s two_pos) (mod-lt t two_pos) e)

pub same_set : (w s t : ℕ) → s < 2 ^ w → t < 2 ^ w → ((n : ℕ) → n < w → has s n ≡ has t n) → s ≡ t
same_set zero s t hs ht e = lt-one hs ∙ sym (lt-one ht)
same_set (suc w) s t hs ht e =
    digits_same s t
    (same_set w (s / 2) (t / 2) (omega (arith, pow-suc 2 w)) (omega (arith, pow-suc 2 w))
    (λ n l. sym (has-suc s n) ∙ e (suc n) (suc-le-suc l) ∙ has-suc t n))
    (sym (has-zero s) ∙ e zero (zero-lt-suc w) ∙ has-zero t)

-- so `Exactly` leaves one set
pub exactly_one : (w s t : ℕ) (f : ℕ → Bool) → s < 2 ^ w → t < 2 ^ w → Exactly s f → Exactly t f → s ≡ t
exactly_one w s t f hs ht es et = same_set w s t hs ht (λ n l. es n ∙ sym (et n))

pub none_is_empty : (w s : ℕ) → s < 2 ^ w → ((n : ℕ) → n < w → has s n ≡ false) → s ≡ 0
none_is_empty w s h e = same_set w s 0 h (pow_pos w) (λ n l. e n l ∙ sym (has_empty n))

-- a number with no member from w on is below 2 ^ w
below_power : (s : ℕ) → s < 2 ^ s
below_power zero = zero-lt-suc 0
below_power (suc s) = omega (arith, pow-suc 2 s, below_power s)

pub none_beyond : (w s : ℕ) → ((n : ℕ) → w ≤ n → has s n ≡ false) → s < 2 ^ w
none_beyond zero s e = subst (λ (x : ℕ). x < 1) (sym (none_is_empty s s (below_power s) (λ n l. e n zero-le))) (zero-lt-suc 0)
none_beyond (suc w) s e = omega (arith, pow-suc 2 w, none_beyond w (s / 2) (λ n l. sym (has-suc s n) ∙ e (suc n) (suc-le-suc l)))
