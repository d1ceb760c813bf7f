-- The laws of loops: one that tests every index, one that looks for the first, one that gathers a set, one that rewrites an array.
-- A loop's invariant names the law's statement, and the loop's start, turn and end each cite one law.
-- Assumes nothing.
use mathlib.Core.Path.{◌≡◌, refl, sym, ap, ◌∙◌, subst}
use mathlib.Core.Logic.{⊎_elim}
use mathlib.Core.Bool.{Bool, true, false}
use mathlib.Core.List.{List}
use Prim.Native.Nat.{ℕ, ◌+◌, ◌≤◌, ◌<◌, zero-le}
use native.Mathlib.Nat.{not-suc-le-zero, le_trans, lt_of_lt_of_le, eq-or-lt_of_le}
use native.Mathlib.Omega.{arith}
use borrow.Author.Count.{below_more}
use borrow.Author.Tests.{eq-eqb, ne_eqb, eqb-true, lt-ltb, le-ltb}
use lib.Dec.{eqb, ltb}
use lib.ListN.{length, get_or, set}
use lib.Seq.{get_or-set_same, get_or-set_other}
use Rattle.std.specs.Prelude.{MatchOption}
use Rattle.std.specs.Option.{unwrap_or}
use Rattle.std.specs.declared.option.Option.{Option}
use Rattle.std.specs.declared.option.Option.TheVariants.{None as Nowhere, Some}
use Rattle.sets.specs.Tests.{◌and◌, ◌or◌}
use Rattle.sets.specs.Sets.{has, all, any, least, set_of, Exactly}
use Rattle.sets.proofs.Tests.{and_given, and_fails_l, or_fails, or_l, or_r}
use Rattle.sets.proofs.Digits.{has_empty, none_beyond, lt_or_le}
use Rattle.sets.proofs.Builders.{set_of_is}
use Rattle.sets.proofs.Quantifiers.{least_is, any_of, any_fails, all_of, all_fails}

-- ---- a loop that tests every index from 0 up and leaves at the first that passes: none below i has passed
pub record None (f : ℕ → Bool) (i : ℕ) : Type 0 where
  pub below : (n : ℕ) → n < i → f n ≡ false

pub none_begin : (f : ℕ → Bool) → None f 0
none_begin f = record { below = λ n l. absurd (not-suc-le-zero l) }

pub none_turn : (f : ℕ → Bool) (i : ℕ) → None f i → f i ≡ false → None f (i + 1)
none_turn f i h e = record { below = below_more (λ n. f n ≡ false) i h.below e }

-- what the loop has found, as the first, as some, and as the end of all
pub found_least : (w : ℕ) (f : ℕ → Bool) (i : ℕ) → i < w → None f i → f i ≡ true → i ≡ least w f
found_least w f i l h e = least_is w f i (omega arith) (λ _. e) h.below

pub none_least : (w : ℕ) (f : ℕ → Bool) (i : ℕ) → w ≤ i → None f i → w ≡ least w f
none_least w f i l h = least_is w f w (omega arith) (λ k. absurd (omega arith)) (λ n m. h.below n (lt_of_lt_of_le m l))

pub found_any : (w : ℕ) (f : ℕ → Bool) (i : ℕ) → i < w → f i ≡ true → true ≡ any w f
found_any w f i l e = sym (any_of w f i l e)

pub none_any : (w : ℕ) (f : ℕ → Bool) (i : ℕ) → w ≤ i → None f i → false ≡ any w f
none_any w f i l h = sym (any_fails w f (λ n m. h.below n (lt_of_lt_of_le m l)))

-- the same where the loop ends before the width, since none passes from there on
pub none_past : (w v : ℕ) (f : ℕ → Bool) (i : ℕ) → v ≤ i → ((n : ℕ) → v ≤ n → f n ≡ false) → None f i → false ≡ any w f
none_past w v f i l past h = sym (any_fails w f (λ n m. ⊎_elim (λ k. h.below n k) (λ k. past n (le_trans l k)) (lt_or_le n i)))

-- what `find` gives over the numbers below the width, with the width where it finds none
pub found_or : (w : ℕ) (f : ℕ → Bool) (r : Option ℕ)
    → MatchOption r ((k : ℕ) → k < w → f k ≡ false) (λ a. (a < w) × (f a ≡ true) × ((k : ℕ) → k < a → f k ≡ false))
    → unwrap_or r w ≡ least w f
found_or w f Nowhere h = none_least w f w (omega arith) (record { below = h })
found_or w f (Some a) h = found_least w f a h.0 (record { below = h.2 }) h.1

-- ---- a loop that tests that every index passes and leaves at the first that does not: all below i have passed
pub record All (f : ℕ → Bool) (i : ℕ) : Type 0 where
  pub below : (n : ℕ) → n < i → f n ≡ true

pub all_begin : (f : ℕ → Bool) → All f 0
all_begin f = record { below = λ n l. absurd (not-suc-le-zero l) }

pub all_turn : (f : ℕ → Bool) (i : ℕ) → All f i → f i ≡ true → All f (i + 1)
all_turn f i h e = record { below = below_more (λ n. f n ≡ true) i h.below e }

pub all_not : (w : ℕ) (f : ℕ → Bool) (i : ℕ) → i < w → f i ≡ false → false ≡ all w f
all_not w f i l e = sym (all_fails w f i l e)

pub all_end : (w : ℕ) (f : ℕ → Bool) (i : ℕ) → w ≤ i → All f i → true ≡ all w f
all_end w f i l h = sym (all_of w f (λ n m. h.below n (lt_of_lt_of_le m l)))

-- ---- a loop that gathers a set: its members are those below i that pass
pub Gathered : (ℕ → Bool) → ℕ → ℕ → Type 0
Gathered f s i = Exactly s (λ n. ltb n i and f n)

ltb_more : (n i : ℕ) → ltb n (i + 1) ≡ (eqb n i or ltb n i)
ltb_more n i =
    ⊎_elim (λ l. lt-ltb n (i + 1) (omega arith) ∙ sym (or_r _ _ (lt-ltb n i l)))
    (λ l. ⊎_elim (λ e. lt-ltb n (i + 1) (omega arith) ∙ sym (or_l _ _ (eq-eqb n i (sym e))))
    (λ m. le-ltb n (i + 1) (omega arith) ∙ sym (or_fails _ _ (ne_eqb n i (omega arith)) (le-ltb n i l)))
    (eq-or-lt_of_le l)) (lt_or_le n i)

pub gather_begin : (f : ℕ → Bool) → Gathered f 0 0
unfolding Gathered
gather_begin f n = has_empty n ∙ sym (and_fails_l _ _ (le-ltb n 0 zero-le))

join : (a b c : Bool) → (a ≡ true → c ≡ true) → (a or (b and c)) ≡ ((a or b) and c)
unfolding ◌and◌ ◌or◌
join true b c g = sym (g refl)
join false b c g = refl

-- i passes, and joins the set
pub gather_take : (f : ℕ → Bool) (s t i : ℕ) → Gathered f s i → Exactly t (λ n. eqb n i or has s n) → f i ≡ true → Gathered f t (i + 1)
unfolding Gathered
gather_take f s t i h e p n =
    e n ∙ ap (λ (b : Bool). eqb n i or b) (h n) ∙ join (eqb n i) (ltb n i) (f n) (λ q. ap f (eqb-true n i q) ∙ p)
    ∙ ap (λ (b : Bool). b and f n) (sym (ltb_more n i))

stay : (a b c : Bool) → (a ≡ true → c ≡ false) → (b and c) ≡ ((a or b) and c)
unfolding ◌and◌ ◌or◌
stay true true c g = refl
stay true false c g = sym (g refl)
stay false b c g = refl

-- i does not pass, and the set stays
pub gather_skip : (f : ℕ → Bool) (s i : ℕ) → Gathered f s i → f i ≡ false → Gathered f s (i + 1)
unfolding Gathered
gather_skip f s i h p n =
    h n ∙ stay (eqb n i) (ltb n i) (f n) (λ q. ap f (eqb-true n i q) ∙ p) ∙ ap (λ (b : Bool). b and f n) (sym (ltb_more n i))

pub gather_end : (f : ℕ → Bool) (s w i : ℕ) → w ≤ i → ((n : ℕ) → w ≤ n → f n ≡ false) → Gathered f s i → Exactly s f
unfolding Gathered
gather_end f s w i l past h n =
    h n ∙ ⊎_elim (λ m. and_given _ _ (lt-ltb n i m)) (λ m. and_fails_l _ _ (le-ltb n i m) ∙ sym (past n (le_trans l m))) (lt_or_le n i)

-- the same where the loop ran over the width: the set of all below it that pass
pub gather_set : (w : ℕ) (f : ℕ → Bool) (s i : ℕ) → i ≤ w → w ≤ i → Gathered f s i → s ≡ set_of w f
unfolding Gathered
gather_set w f s i l m h =
    set_of_is w s f (none_beyond w s (λ n k. h n ∙ and_fails_l _ _ (le-ltb n i (le_trans l k)))) (λ n k. h n ∙ and_given _ _ (lt-ltb n i (lt_of_lt_of_le k m)))

-- ---- a loop that rewrites an array element by element: those before i are done, those from i on are as they were
pub record Rewritten (P : ℕ → ℕ → Type 0) (old new : List ℕ) (i : ℕ) : Type 0 where
  pub done : (n : ℕ) → n < i → P n (get_or new n 0)
  pub rest : (n : ℕ) → i ≤ n → get_or new n 0 ≡ get_or old n 0

pub rewrite_begin : (P : ℕ → ℕ → Type 0) (old : List ℕ) → Rewritten P old old 0
rewrite_begin P old = record { done = λ n l. absurd (not-suc-le-zero l); rest = λ n l. refl }

pub rewrite_turn : (P : ℕ → ℕ → Type 0) (old new : List ℕ) (i v : ℕ) → i < length new → Rewritten P old new i → P i v → Rewritten P old (set new i v) (i + 1)
rewrite_turn P old new i v h s p = record {
  done = below_more (λ n. P n (get_or (set new i v) n 0)) i
      (λ n l. subst (P n) (sym (get_or-set_other new i n v 0 (omega arith))) (s.done n l))
      (subst (P i) (sym (get_or-set_same new i v 0 h)) p);
  rest = λ n l. get_or-set_other new i n v 0 (omega arith) ∙ s.rest n (omega arith);
}

-- i is done already, and stays
pub rewrite_skip : (P : ℕ → ℕ → Type 0) (old new : List ℕ) (i : ℕ) → Rewritten P old new i → P i (get_or old i 0) → Rewritten P old new (i + 1)
rewrite_skip P old new i s p = record {
  done = below_more (λ n. P n (get_or new n 0)) i s.done (subst (P i) (sym (s.rest i (omega arith))) p);
  rest = λ n l. s.rest n (omega arith);
}
