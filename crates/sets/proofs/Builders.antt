-- The laws of sets made of a test, and of the tests that the machine makes on whole sets. Each over the width.
-- Assumes nothing.
use mathlib.Core.Path.{◌≡◌, refl, sym, ap, ◌∙◌}
use mathlib.Core.Logic.{⊎_elim}
use mathlib.Core.Bool.{Bool, true, false}
use Prim.Native.Nat.{ℕ, zero, suc, ◌+◌, ◌*◌, ◌^◌, ◌≤◌, ◌<◌}
use native.Mathlib.Nat.{not-suc-le-zero, le_of_suc-le-suc, zero-lt-suc, eq-or-lt_of_le, add-zero, le_refl, lt_of_le_of_lt, one-mul, pow-suc}
use native.Mathlib.Omega.{arith}
use lib.Bits.{bit_and, or_shifted_r, and_le_l}
use lib.Dec.{eqb}
use borrow.Author.Tests.{eq-eqb, ne_eqb, eqb-true}
use Rattle.sets.specs.Tests.{◌and◌, ◌or◌, neg, ◌implies◌, ◌iff◌, pick}
use Rattle.sets.specs.Sets.{has, all, any, set_of, Exactly, subset, agreeing}
use Rattle.sets.proofs.Tests.{by_test, clash, same_test, or_false, or_r, neg_e, neg_i, neg_fails, neg-neg, implies_i, implies_e, implies_not, implies-neg}
use Rattle.sets.proofs.Digits.{has_empty, has-or, has-and, has_bit, has_beyond, none_beyond, same_set, none_is_empty, lt_or_le}
use Rattle.sets.proofs.Quantifiers.{all_of, all_at, any_at, any_fails, any_none}

-- ---- the set of the numbers that pass a test
pub set_of_lt : (w : ℕ) (f : ℕ → Bool) → set_of w f < 2 ^ w
unfolding set_of
set_of_lt zero f = zero-lt-suc 0
set_of_lt (suc w) f = go (f w) (set_of_lt w f)
  where
    go : (b : Bool) → set_of w f < 2 ^ w → set_of w f + pick b (2 ^ w) 0 < 2 ^ suc w
    go true h = omega (arith, pow-suc 2 w)
    go false h = omega (arith, pow-suc 2 w)

has_add_bit : (w s n : ℕ) → s < 2 ^ w → has (s + 2 ^ w) n ≡ (has s n or eqb n w)
has_add_bit w s n h =
    ap (λ (y : ℕ). has y n) (sum ∙ sym (or_shifted_r 1 w s h)) ∙ has-or s (1 * 2 ^ w) n
    ∙ ap (λ (y : ℕ). has s n or has y n) (one-mul (2 ^ w)) ∙ ap (λ (b : Bool). has s n or b) (has_bit w n)
  where
    sum : s + 2 ^ w ≡ 1 * 2 ^ w + s
    sum = omega arith

add_below : (w s n : ℕ) (b : Bool) → s < 2 ^ w → n < w → has (s + pick b (2 ^ w) 0) n ≡ has s n
add_below w s n true h l = has_add_bit w s n h ∙ ap (λ (b : Bool). has s n or b) (ne_eqb n w (omega arith)) ∙ or_false (has s n)
add_below w s n false h l = ap (λ (y : ℕ). has y n) (add-zero s)

add_at : (w s : ℕ) (b : Bool) → s < 2 ^ w → has (s + pick b (2 ^ w) 0) w ≡ b
add_at w s true h = has_add_bit w s w h ∙ or_r _ _ (eq-eqb w w refl)
add_at w s false h = ap (λ (y : ℕ). has y w) (add-zero s) ∙ has_beyond w s w h (le_refl w)

pub has-set_of : (w : ℕ) (f : ℕ → Bool) (n : ℕ) → n < w → has (set_of w f) n ≡ f n
unfolding set_of
has-set_of zero f n l = absurd (not-suc-le-zero l)
has-set_of (suc w) f n l =
    ⊎_elim (λ e. ap (has (set_of (suc w) f)) e ∙ add_at w (set_of w f) (f w) (set_of_lt w f) ∙ sym (ap f e))
    (λ m. add_below w (set_of w f) n (f w) (set_of_lt w f) m ∙ has-set_of w f n m) (eq-or-lt_of_le (le_of_suc-le-suc l))

-- a member passes the test, and is below the width
pub in_set_of : (w : ℕ) (f : ℕ → Bool) (n : ℕ) → has (set_of w f) n ≡ true → (n < w) × (f n ≡ true)
in_set_of w f n e =
    ⊎_elim (λ l. (l, sym (has-set_of w f n l) ∙ e)) (λ l. clash e (has_beyond w (set_of w f) n (set_of_lt w f) l)) (lt_or_le n w)

-- a number below 2 ^ w is the set of its members
pub set_of_is : (w s : ℕ) (f : ℕ → Bool) → s < 2 ^ w → ((n : ℕ) → n < w → has s n ≡ f n) → s ≡ set_of w f
set_of_is w s f h e = same_set w s (set_of w f) h (set_of_lt w f) (λ n l. e n l ∙ sym (has-set_of w f n l))

pub set_of_same : (w : ℕ) (f g : ℕ → Bool) → ((n : ℕ) → n < w → f n ≡ g n) → set_of w f ≡ set_of w g
set_of_same w f g e = set_of_is w (set_of w f) g (set_of_lt w f) (λ n l. has-set_of w f n l ∙ e n l)

pub exactly_is : (w s : ℕ) (f : ℕ → Bool) → s < 2 ^ w → Exactly s f → s ≡ set_of w f
exactly_is w s f h e = set_of_is w s f h (λ n l. e n)

-- the same where none passes from w on
pub exactly_set : (w s : ℕ) (f : ℕ → Bool) → ((n : ℕ) → w ≤ n → f n ≡ false) → Exactly s f → s ≡ set_of w f
exactly_set w s f past e = exactly_is w s f (none_beyond w s (λ n l. e n ∙ past n l)) e

-- ---- the test for the empty set
pub empty_test : (w s : ℕ) (f : ℕ → Bool) → s < 2 ^ w → Exactly s f → eqb s 0 ≡ neg (any w f)
empty_test w s f h e =
    by_test (any w f)
    (λ t. ne_eqb s 0 (λ z. let r = any_at w f t in clash r.2 (sym (e r.0) ∙ ap (λ (x : ℕ). has x r.0) z ∙ has_empty r.0)) ∙ sym (neg_fails _ t))
    (λ t. eq-eqb s 0 (none_is_empty w s h (λ n l. e n ∙ any_none w f t n l)) ∙ sym (neg_i _ t))

pub no_member : (w s : ℕ) (f : ℕ → Bool) → s < 2 ^ w → Exactly s f → s ≡ 0 → any w f ≡ false
no_member w s f h e z = any_fails w f (λ n l. sym (e n) ∙ ap (λ (x : ℕ). has x n) z ∙ has_empty n)

pub some_member : (w s : ℕ) (f : ℕ → Bool) → s < 2 ^ w → Exactly s f → (s ≡ 0 → ⊥) → any w f ≡ true
some_member w s f h e z = by_test (any w f) (λ t. t) (λ t. absurd (z (none_is_empty w s h (λ n l. e n ∙ any_none w f t n l))))

-- ---- the test of `subset`: s without t is empty
none_all : (w : ℕ) (f g : ℕ → Bool) → ((n : ℕ) → n < w → g n ≡ neg (f n)) → neg (any w f) ≡ all w g
none_all w f g e =
    same_test (neg (any w f)) (all w g)
    (λ q. all_of w g (λ n l. e n l ∙ neg_i (f n) (any_none w f (neg_e (any w f) q) n l)))
    (λ q. neg_i (any w f) (any_fails w f (λ n l. neg_e (f n) (sym (e n l) ∙ all_at w g q n l))))

-- s has one that t lacks, or is a subset of t
pub none_lacks : (w s t : ℕ) → neg (any w (λ n. has s n and neg (has t n))) ≡ subset w s t
unfolding subset
none_lacks w s t = none_all w _ (λ n. has s n implies has t n) (λ n l. implies-neg (has s n) (has t n))

pub subset_lacks : (w s t : ℕ) → neg (subset w s t) ≡ any w (λ n. has s n and neg (has t n))
subset_lacks w s t = ap neg (sym (none_lacks w s t)) ∙ neg-neg _

pub subset_at : (w s t : ℕ) → s < 2 ^ w → subset w s t ≡ true → (n : ℕ) → has s n ≡ true → has t n ≡ true
unfolding subset
subset_at w s t h e n m =
    ⊎_elim (λ l. implies_e (has s n) (has t n) (all_at w _ e n l) m) (λ l. clash m (has_beyond w s n h l)) (lt_or_le n w)

-- the empty set is a subset of any
pub subset_empty : (w t : ℕ) → subset w 0 t ≡ true
unfolding subset
subset_empty w t = all_of w _ (λ n l. implies_not _ _ (has_empty n))

pub subset_of : (w s t : ℕ) → ((n : ℕ) → has s n ≡ true → has t n ≡ true) → subset w s t ≡ true
unfolding subset
subset_of w s t f = all_of w _ (λ n l. implies_i (has s n) (has t n) (f n))

-- ---- the test of `agree`: s and t are the same inside o
agree_digit : (a b o : Bool) → (o implies (a iff b)) ≡ true → (a and o) ≡ (b and o)
unfolding ◌implies◌ ◌iff◌ ◌and◌
agree_digit true true o e = refl
agree_digit true false true e = sym e
agree_digit true false false e = refl
agree_digit false true true e = e
agree_digit false true false e = refl
agree_digit false false o e = refl

digit_agree : (a b o : Bool) → (a and o) ≡ (b and o) → (o implies (a iff b)) ≡ true
unfolding ◌implies◌ ◌iff◌ ◌and◌
digit_agree a b false e = refl
digit_agree true true true e = refl
digit_agree true false true e = sym e
digit_agree false true true e = e
digit_agree false false true e = refl

pub agree_test : (w s t o : ℕ) → s < 2 ^ w → t < 2 ^ w → eqb (bit_and s o) (bit_and t o) ≡ agreeing w s t o
unfolding agreeing
agree_test w s t o hs ht =
    same_test (eqb (bit_and s o) (bit_and t o)) (all w (λ n. has o n implies (has s n iff has t n)))
    (λ q. all_of w _ (λ n l. digit_agree (has s n) (has t n) (has o n)
    (sym (has-and s o n) ∙ ap (λ (x : ℕ). has x n) (eqb-true (bit_and s o) (bit_and t o) q) ∙ has-and t o n)))
    (λ q. eq-eqb (bit_and s o) (bit_and t o)
    (same_set w (bit_and s o) (bit_and t o) (lt_of_le_of_lt (and_le_l s o) hs) (lt_of_le_of_lt (and_le_l t o) ht)
    (λ n l. has-and s o n ∙ agree_digit (has s n) (has t n) (has o n) (all_at w _ q n l) ∙ sym (has-and t o n))))
