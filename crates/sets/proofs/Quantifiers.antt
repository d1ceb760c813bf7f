-- The laws of `all`, `any`, `least` and `count`, each over the width.
-- Assumes nothing.
use mathlib.Core.Path.{◌≡◌, refl, sym, ap, ap₂, ◌∙◌, subst}
use mathlib.Core.Logic.{⊎_elim}
use mathlib.Core.Bool.{Bool, true, false}
use Prim.Native.Nat.{ℕ, zero, suc, ◌+◌, ◌-◌, ◌/◌, ◌%◌, ◌^◌, ◌≤◌, ◌<◌, suc-le-suc, zero-le}
use native.Mathlib.Nat.{add-zero, add-suc, add_assoc, lt_irrefl, not-suc-le-zero, le_of_suc-le-suc, lt_of_lt_of_le, zero-lt-suc, eq-or-lt_of_le, mod-lt, pow-suc}
use native.Mathlib.Numerals.{add-one}
use native.Mathlib.Omega.{arith}
use lib.Arith.{le-zero, lt-one}
use lib.Count.{ones, ones_step, ones-ones, count_trailing_zeros, under, trailing_le}
use lib.Dec.{eqb, ltb}
use mir.Val.{Fits}
use mir.Syntax.{w64}
use borrow.Author.Tests.{lt-ltb, le-ltb}
use Rattle.sets.specs.Tests.{◌and◌, ◌or◌, neg, pick}
use Rattle.sets.specs.Sets.{has, all, any, count, least, lowest, lowest_free, size}
use Rattle.sets.proofs.Tests.{clash, not_so, same_test, and_i, and_l, and_r, or_l, or_r, or_cases, neg_e, neg_false}
use Rattle.sets.proofs.Digits.{has_low, has_half, has_not, no_digit, lt_or_le}

-- ---- all
pub all_of : (w : ℕ) (f : ℕ → Bool) → ((n : ℕ) → n < w → f n ≡ true) → all w f ≡ true
unfolding all
all_of zero f g = refl
all_of (suc w) f g = and_i _ _ (all_of w f (λ n l. g n (omega arith))) (g w (omega arith))

pub all_at : (w : ℕ) (f : ℕ → Bool) → all w f ≡ true → (n : ℕ) → n < w → f n ≡ true
unfolding all
all_at zero f t n l = absurd (not-suc-le-zero l)
all_at (suc w) f t n l =
    ⊎_elim (λ e. ap f e ∙ and_r _ _ t) (λ m. all_at w f (and_l _ _ t) n m) (eq-or-lt_of_le (le_of_suc-le-suc l))

pub all_fails : (w : ℕ) (f : ℕ → Bool) (n : ℕ) → n < w → f n ≡ false → all w f ≡ false
all_fails w f n l e = not_so (all w f) (λ t. clash (all_at w f t n l) e)

pub all_same : (w : ℕ) (f g : ℕ → Bool) → ((n : ℕ) → n < w → f n ≡ g n) → all w f ≡ all w g
unfolding all
all_same zero f g e = refl
all_same (suc w) f g e = ap₂ ◌and◌ (all_same w f g (λ n l. e n (omega arith))) (e w (omega arith))

pub all-and : (w : ℕ) (f g : ℕ → Bool) → all w (λ n. f n and g n) ≡ (all w f and all w g)
all-and w f g =
    same_test (all w (λ n. f n and g n)) (all w f and all w g)
    (λ t. and_i _ _ (all_of w f (λ n l. and_l (f n) (g n) (all_at w _ t n l))) (all_of w g (λ n l. and_r (f n) (g n) (all_at w _ t n l))))
    (λ t. all_of w _ (λ n l. and_i (f n) (g n) (all_at w f (and_l _ _ t) n l) (all_at w g (and_r _ _ t) n l)))

-- ---- any
pub any_of : (w : ℕ) (f : ℕ → Bool) (n : ℕ) → n < w → f n ≡ true → any w f ≡ true
unfolding any
any_of zero f n l e = absurd (not-suc-le-zero l)
any_of (suc w) f n l e =
    ⊎_elim (λ q. or_r _ _ (sym (ap f q) ∙ e)) (λ m. or_l _ _ (any_of w f n m e)) (eq-or-lt_of_le (le_of_suc-le-suc l))

pub any_at : (w : ℕ) (f : ℕ → Bool) → any w f ≡ true → (n : ℕ) × (n < w) × (f n ≡ true)
unfolding any
any_at zero f t = clash t refl
any_at (suc w) f t =
    ⊎_elim (λ u. let r = any_at w f u in (r.0, omega (arith, r.1), r.2)) (λ u. (w, omega arith, u)) (or_cases _ _ t)

pub any_fails : (w : ℕ) (f : ℕ → Bool) → ((n : ℕ) → n < w → f n ≡ false) → any w f ≡ false
any_fails w f g = not_so (any w f) (λ t. let r = any_at w f t in clash r.2 (g r.0 r.1))

pub any_none : (w : ℕ) (f : ℕ → Bool) → any w f ≡ false → (n : ℕ) → n < w → f n ≡ false
any_none w f e n l = not_so (f n) (λ q. clash (any_of w f n l q) e)

pub any_same : (w : ℕ) (f g : ℕ → Bool) → ((n : ℕ) → n < w → f n ≡ g n) → any w f ≡ any w g
unfolding any
any_same zero f g e = refl
any_same (suc w) f g e = ap₂ ◌or◌ (any_same w f g (λ n l. e n (omega arith))) (e w (omega arith))

pub any-or : (w : ℕ) (f g : ℕ → Bool) → any w (λ n. f n or g n) ≡ (any w f or any w g)
any-or w f g =
    same_test (any w (λ n. f n or g n)) (any w f or any w g)
    (λ t. let r = any_at w _ t in
    ⊎_elim (λ u. or_l _ _ (any_of w f r.0 r.1 u)) (λ u. or_r _ _ (any_of w g r.0 r.1 u)) (or_cases (f r.0) (g r.0) r.2))
    (λ t. ⊎_elim (λ (u : any w f ≡ true). let r = any_at w f u in any_of w _ r.0 r.1 (or_l _ _ r.2))
    (λ (u : any w g ≡ true). let r = any_at w g u in any_of w _ r.0 r.1 (or_r _ _ r.2)) (or_cases _ _ t))

-- ---- least: it is the one that passes with none below it
pub least_is : (w : ℕ) (f : ℕ → Bool) (r : ℕ) → r ≤ w → (r < w → f r ≡ true) → ((n : ℕ) → n < r → f n ≡ false) → r ≡ least w f
unfolding least
least_is zero f r h at below = le-zero h
least_is (suc w) f zero h at below = sym (ap (λ (b : Bool). pick b 0 (suc (least w (λ n. f (suc n))))) (at (zero-lt-suc w)))
least_is (suc w) f (suc r) h at below =
    ap suc (least_is w (λ n. f (suc n)) r (le_of_suc-le-suc h) (λ l. at (suc-le-suc l)) (λ n l. below (suc n) (suc-le-suc l)))
    ∙ sym (ap (λ (b : Bool). pick b 0 (suc (least w (λ n. f (suc n))))) (below zero (zero-lt-suc r)))

pub least_le : (w : ℕ) (f : ℕ → Bool) → least w f ≤ w
unfolding least
least_le zero f = zero-le
least_le (suc w) f = go (f zero) (least_le w (λ n. f (suc n)))
  where
    go : (b : Bool) → least w (λ n. f (suc n)) ≤ w → pick b 0 (suc (least w (λ n. f (suc n)))) ≤ suc w
    go true h = zero-le
    go false h = suc-le-suc h

pub least_below : (w : ℕ) (f : ℕ → Bool) (n : ℕ) → n < least w f → f n ≡ false
unfolding least
least_below zero f n l = absurd (not-suc-le-zero l)
least_below (suc w) f n l = go (f zero) refl (λ i. least_below w (λ k. f (suc k)) i) n l
  where
    go : (b : Bool) → f zero ≡ b → ((i : ℕ) → i < least w (λ k. f (suc k)) → f (suc i) ≡ false)
        → (n : ℕ) → n < pick b 0 (suc (least w (λ k. f (suc k)))) → f n ≡ false
    go true e ih n l = absurd (not-suc-le-zero l)
    go false e ih zero l = e
    go false e ih (suc n) l = ih n (le_of_suc-le-suc l)

pub least_at : (w : ℕ) (f : ℕ → Bool) → least w f < w → f (least w f) ≡ true
unfolding least
least_at zero f l = absurd (not-suc-le-zero l)
least_at (suc w) f l = go (f zero) refl (least_at w (λ k. f (suc k))) l
  where
    go : (b : Bool) → f zero ≡ b → (least w (λ k. f (suc k)) < w → f (suc (least w (λ k. f (suc k)))) ≡ true)
        → pick b 0 (suc (least w (λ k. f (suc k)))) < suc w → f (pick b 0 (suc (least w (λ k. f (suc k))))) ≡ true
    go true e ih l = e
    go false e ih l = ih (le_of_suc-le-suc l)

pub least_same : (w : ℕ) (f g : ℕ → Bool) → ((n : ℕ) → n < w → f n ≡ g n) → least w f ≡ least w g
least_same w f g e =
    least_is w g (least w f) (least_le w f) (λ l. sym (e _ l) ∙ least_at w f l)
    (λ n l. sym (e n (lt_of_lt_of_le l (least_le w f))) ∙ least_below w f n l)

-- one passes exactly if the least that does is below the width
pub least_any : (w : ℕ) (f : ℕ → Bool) → any w f ≡ ltb (least w f) w
least_any w f =
    ⊎_elim (λ l. any_of w f (least w f) l (least_at w f l) ∙ sym (lt-ltb _ _ l))
    (λ l. any_fails w f (λ n m. least_below w f n (lt_of_lt_of_le m l)) ∙ sym (le-ltb _ _ l)) (lt_or_le (least w f) w)

-- ---- count
pub count_first : (w : ℕ) (f : ℕ → Bool) → count (suc w) f ≡ pick (f zero) 1 0 + count w (λ n. f (suc n))
unfolding count
count_first zero f = omega arith
count_first (suc w) f = omega (arith, count_first w f)

pub count_same : (w : ℕ) (f g : ℕ → Bool) → ((n : ℕ) → n < w → f n ≡ g n) → count w f ≡ count w g
unfolding count
count_same zero f g e = refl
count_same (suc w) f g e = ap₂ (λ (x : ℕ) (b : Bool). x + pick b 1 0) (count_same w f g (λ n l. e n (omega arith))) (e w (omega arith))

pub count-full : (w : ℕ) (f : ℕ → Bool) → ((n : ℕ) → n < w → f n ≡ true) → count w f ≡ w
unfolding count
count-full zero f e = refl
count-full (suc w) f e =
    ap₂ (λ (x : ℕ) (b : Bool). x + pick b 1 0) (count-full w f (λ n l. e n (omega arith))) (e w (omega arith)) ∙ add-one w

pub count_le : (w : ℕ) (f : ℕ → Bool) → count w f ≤ w
unfolding count
count_le zero f = zero-le
count_le (suc w) f = go (f w) (count_le w f)
  where
    go : (b : Bool) → count w f ≤ w → count w f + pick b 1 0 ≤ suc w
    go true h = omega arith
    go false h = omega arith

-- those below m, and those from m on
pub count_add : (m n : ℕ) (f : ℕ → Bool) → count (m + n) f ≡ count m f + count n (λ k. f (m + k))
unfolding count
count_add m zero f = ap (λ (x : ℕ). count x f) (add-zero m) ∙ sym (add-zero _)
count_add m (suc n) f =
    ap (λ (x : ℕ). count x f) (add-suc m n) ∙ ap (λ (x : ℕ). x + pick (f (m + n)) 1 0) (count_add m n f) ∙ add_assoc _ _ _

-- one that fails leaves room
pub count_room : (w : ℕ) (f : ℕ → Bool) (n : ℕ) → n < w → f n ≡ false → count w f < w
unfolding count
count_room zero f n l e = absurd (not-suc-le-zero l)
count_room (suc w) f n l e = ⊎_elim (λ q. top (f w) (sym (ap f q) ∙ e)) (λ m. rest (f w) (count_room w f n m e)) (eq-or-lt_of_le (le_of_suc-le-suc l))
  where
    top : (b : Bool) → b ≡ false → count w f + pick b 1 0 < suc w
    top true q = clash refl q
    top false q = omega (arith, count_le w f)

    rest : (b : Bool) → count w f < w → count w f + pick b 1 0 < suc w
    rest true h = omega arith
    rest false h = omega arith

-- where not all w are members, the lowest free number is below w: what a test of the count tells
pub lowest_room : (w s : ℕ) → size w s < w → lowest_free w s < w
unfolding size lowest_free
lowest_room w s h =
    ⊎_elim (λ l. l)
    (λ l. absurd (lt_irrefl w (subst (λ (x : ℕ). x < w)
    (count-full w (has s) (λ n m. neg_false (has s n) (least_below w _ n (lt_of_lt_of_le m l)))) h)))
    (lt_or_le (least w (λ n. neg (has s n))) w)

-- and it is free
pub lowest_free_lem : (w s : ℕ) → lowest_free w s < w → has s (lowest_free w s) ≡ false
unfolding lowest_free
lowest_free_lem w s l = neg_e (has s _) (least_at w (λ n. neg (has s n)) l)

-- ---- what the machine counts
one_dig : (d : ℕ) → d < 2 → pick (eqb d 1) 1 0 ≡ d
one_dig zero h = refl
one_dig (suc zero) h = refl
one_dig (suc (suc d)) h = no_digit h

-- how many digits are set is how many members there are
pub ones_size : (w s : ℕ) → s < 2 ^ w → ones s ≡ size w s
unfolding size count
ones_size zero s h = ap ones (lt-one h) ∙ ones-ones 0
ones_size (suc w) s h =
    ones_step s ∙ ap₂ (λ (x y : ℕ). x + y)
    (sym (one_dig (s % 2) (mod-lt s (zero-lt-suc 1))) ∙ ap (λ (b : Bool). pick b 1 0) (sym (has_low s (s % 2) refl)))
    (ones_size w (s / 2) (omega (arith, pow-suc 2 w)) ∙ count_same w (has (s / 2)) (λ n. has s (suc n)) (λ n l. sym (has_half s (s / 2) n refl)))
    ∙ sym (count_first w (has s))

-- the lowest set digit: none below it is a member, and it is one, unless none of the w lowest is
trailing_below : (w s n : ℕ) → n < count_trailing_zeros w s → has s n ≡ false
unfolding count_trailing_zeros
trailing_below zero s n l = absurd (not-suc-le-zero l)
trailing_below (suc w) s n l = go (λ i. trailing_below w (s / 2) i) (s % 2) refl n l
  where
    go : ((i : ℕ) → i < count_trailing_zeros w (s / 2) → has (s / 2) i ≡ false)
        → (d : ℕ) → s % 2 ≡ d → (n : ℕ) → n < under d (count_trailing_zeros w (s / 2)) → has s n ≡ false
    go ih zero e zero l = has_low s 0 e
    go ih zero e (suc n) l = has_half s (s / 2) n refl ∙ ih n (le_of_suc-le-suc l)
    go ih (suc d) e n l = absurd (not-suc-le-zero l)

trailing_at : (w s : ℕ) → count_trailing_zeros w s < w → has s (count_trailing_zeros w s) ≡ true
unfolding count_trailing_zeros
trailing_at zero s l = absurd (not-suc-le-zero l)
trailing_at (suc w) s l = go (trailing_at w (s / 2)) (s % 2) (mod-lt s (zero-lt-suc 1)) refl l
  where
    go : (count_trailing_zeros w (s / 2) < w → has (s / 2) (count_trailing_zeros w (s / 2)) ≡ true)
        → (d : ℕ) → d < 2 → s % 2 ≡ d → under d (count_trailing_zeros w (s / 2)) < suc w → has s (under d (count_trailing_zeros w (s / 2))) ≡ true
    go ih zero h e l = has_half s (s / 2) (count_trailing_zeros w (s / 2)) refl ∙ ih (le_of_suc-le-suc l)
    go ih (suc zero) h e l = has_low s 1 e
    go ih (suc (suc d)) h e l = no_digit h

-- they are as many as the lowest member's number
pub trailing_member : (w s : ℕ) → count_trailing_zeros w s ≡ lowest w s
unfolding lowest
trailing_member w s = least_is w (has s) (count_trailing_zeros w s) (trailing_le w s) (trailing_at w s) (trailing_below w s)

pub trailing_fits : (s : ℕ) → Fits w64 (count_trailing_zeros 64 s)
trailing_fits s = omega (arith, trailing_le 64 s)

-- the zeros below the lowest free digit are as many as the lowest free number
pub trailing_lowest : (w s : ℕ) → s < 2 ^ w → count_trailing_zeros w ((2 ^ w - 1) - s) ≡ lowest_free w s
unfolding lowest_free
trailing_lowest w s h =
    least_is w (λ n. neg (has s n)) (count_trailing_zeros w z) (trailing_le w z)
    (λ l. sym (has_not w s (count_trailing_zeros w z) h l) ∙ trailing_at w z l)
    (λ n l. sym (has_not w s n h (lt_of_lt_of_le l (trailing_le w z))) ∙ trailing_below w z n l)
  where
    z : ℕ
    z = (2 ^ w - 1) - s
