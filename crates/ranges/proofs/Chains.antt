-- What a chain of an iterator's methods finds, by places: a chain tests the items of a list or of a range, `any` and `least` test numbers.
--   any_places    some item of a list passes     any_below, any_between       some number passes, from one on and below one
--   first_place   the first item that passes     first_between, first_below   the first number that passes, from one on and below one
-- Assumes nothing.
use mathlib.Core.Path.{◌≡◌, refl, sym, ap, ◌∙◌}
use mathlib.Core.Logic.{⊎_elim}
use mathlib.Core.Bool.{Bool, true, false, ◌||◌}
use mathlib.Core.List.{List, [], ◌∷◌}
use Prim.Native.Nat.{ℕ, zero, suc, ◌+◌, ◌-◌, ◌≤◌, ◌<◌, zero-le}
use native.Mathlib.Nat.{le_refl}
use native.Mathlib.Omega.{arith}
use borrow.Author.Tests.{le-leb}
use Rattle.std.proofs.lemmas.Bool.{leb-true}
use lib.Dec.{leb}
use lib.ListN.{length, get_or}
use Rattle.std.specs.List.{list_any, range_with_len, AllWithin, HoldsAt}
use Rattle.std.specs.Prelude.{Option, None, Some, MatchOption}
use Rattle.std.specs.Option.{unwrap_or}
use Rattle.std.proofs.lemmas.List.FromFn.{get_or-range_with_len, length-range_with_len}
use Rattle.sets.specs.Tests.{◌and◌, ◌or◌}
use Rattle.sets.specs.Sets.{any, least}
use Rattle.sets.proofs.Tests.{clash, not_so, same_test, and_i, and_given, and_l, and_r, or_l, or_r, or_cases}
use Rattle.sets.proofs.Quantifiers.{any_of, any_at, any_same, least_is, least_same}

-- ---- some
split : (w : ℕ) (f : ℕ → Bool) → any (suc w) f ≡ (f 0 or any w (λ k. f (suc k)))
split w f =
    same_test _ _
    (λ t. let r = any_at (suc w) f t in place r.0 r.1 r.2)
    (λ t. ⊎_elim (λ u. any_of (suc w) f 0 (omega arith) u)
    (λ u. let r = any_at w _ u in any_of (suc w) f (suc r.0) (omega (arith, r.1)) r.2) (or_cases _ _ t))
  where
    place : (n : ℕ) → n < suc w → f n ≡ true → (f 0 or any w (λ k. f (suc k))) ≡ true
    place zero l e = or_l _ _ e
    place (suc n) l e = or_r _ _ (any_of w _ n (omega arith) e)

same_or : (a b : Bool) → (a || b) ≡ (a or b)
unfolding ◌or◌
same_or true b = refl
same_or false b = refl

pub any_places : {X : Type 0} (test : X → Bool) (d : X) (xs : List X) → list_any test xs ≡ any (length xs) (λ k. test (get_or xs k d))
unfolding any
any_places test d [] = refl
any_places test d (x ∷ xs) =
    same_or _ _ ∙ ap (λ (b : Bool). test x or b) (any_places test d xs) ∙ sym (split (length xs) (λ k. test (get_or (x ∷ xs) k d)))

pub any_below : (test : ℕ → Bool) (w : ℕ) → list_any test (range_with_len 0 (w - 0)) ≡ any w test
any_below test w =
    any_places test 0 _ ∙ ap (λ (n : ℕ). any n (λ k. test (get_or (range_with_len 0 (w - 0)) k 0))) (length-range_with_len 0 (w - 0) ∙ omega arith)
    ∙ any_same w _ _ (λ k l. ap test (get_or-range_with_len 0 (w - 0) k 0 (omega arith) ∙ omega arith))

pub any_between : (test : ℕ → Bool) (from w : ℕ) → list_any test (range_with_len from (w - from)) ≡ any w (λ k. leb from k and test k)
any_between test from w =
    any_places test 0 _
    ∙ ap (λ (n : ℕ). any n (λ k. test (get_or (range_with_len from (w - from)) k 0))) (length-range_with_len from (w - from))
    ∙ any_same (w - from) _ (λ k. test (from + k)) (λ k l. ap test (get_or-range_with_len from (w - from) k 0 l ∙ omega arith))
    ∙ same_test _ _
    (λ t. let r = any_at (w - from) _ t in any_of w _ (from + r.0) (omega (arith, r.1)) (and_i _ _ (le-leb _ _ (omega arith)) r.2))
    (λ t. let r = any_at w _ t in
    let l : from ≤ r.0 = leb-true from r.0 (and_l _ _ r.2) in
    any_of (w - from) _ (r.0 - from) (omega (arith, r.1, l))
    (ap test (let e : from + (r.0 - from) ≡ r.0 = omega (arith, l) in e) ∙ and_r _ _ r.2))

-- ---- the first, and the width where none passes
pub first_place : {X : Type 0} (test : X → Bool) (d : X) (xs : List X) (r : Option ℕ)
    → MatchOption r (AllWithin (λ x. test x ≡ false) xs 0 (length xs))
    (λ i. (i < length xs) × HoldsAt (λ x. test x ≡ true) xs i × AllWithin (λ x. test x ≡ false) xs 0 i)
    → unwrap_or r (length xs) ≡ least (length xs) (λ k. test (get_or xs k d))
first_place test d xs None h = least_is _ _ _ (le_refl _) (λ l. absurd (omega arith)) (λ n l. h n d (omega arith) l)
first_place test d xs (Some i) h = least_is _ _ _ (omega arith) (λ l. h.1 d) (λ n l. h.2 n d (omega arith) l)

-- a number from `from` on fails the test, so no number passes both
none_of : (from n : ℕ) (b : Bool) → (from ≤ n → b ≡ false) → (leb from n and b) ≡ false
none_of from n b h = not_so _ (λ t. clash (and_r _ _ t) (h (leb-true from n (and_l _ _ t))))

pub first_between : (test : ℕ → Bool) (from w : ℕ) (r : Option ℕ)
    → MatchOption r ((k : ℕ) → from ≤ k → k < w → test k ≡ false)
    (λ i. (from ≤ i) × (i < w) × (test i ≡ true) × ((k : ℕ) → from ≤ k → k < i → test k ≡ false))
    → unwrap_or r w ≡ least w (λ k. leb from k and test k)
first_between test from w None h =
    least_is _ _ _ (le_refl _) (λ l. absurd (omega arith)) (λ n l. none_of from n (test n) (λ m. h n m l))
first_between test from w (Some i) h =
    least_is _ _ _ (omega arith) (λ l. and_i _ _ (le-leb _ _ h.0) h.2) (λ n l. none_of from n (test n) (λ m. h.3 n m l))

pub first_below : (test : ℕ → Bool) (w : ℕ) (r : Option ℕ)
    → MatchOption r ((k : ℕ) → 0 ≤ k → k < w → test k ≡ false)
    (λ i. (0 ≤ i) × (i < w) × (test i ≡ true) × ((k : ℕ) → 0 ≤ k → k < i → test k ≡ false))
    → unwrap_or r w ≡ least w test
first_below test w r h = first_between test 0 w r h ∙ least_same w _ _ (λ k l. and_given _ _ (le-leb 0 k zero-le))
