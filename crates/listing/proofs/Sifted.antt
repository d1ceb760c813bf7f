-- A loop that goes through the members of a set and gathers those that pass a test.
-- Assumes nothing.
use mathlib.Core.Path.{◌≡◌, refl, sym, ap, ◌∙◌}
use mathlib.Core.Logic.{⊎_elim}
use mathlib.Core.Bool.{Bool, true, false}
use Prim.Native.Nat.{ℕ, ◌<◌, ◌^◌}
use lib.Dec.{eqb}
use borrow.Author.Tests.{eq-eqb, eqb-true}
use Rattle.sets.specs.Tests.{◌and◌, ◌or◌, neg}
use Rattle.sets.specs.Sets.{has, set_of, Exactly}
use Rattle.sets.proofs.Tests.{clash, not_so, same_test, or_l, or_r, or_cases}
use Rattle.sets.proofs.Digits.{has_empty, has_beyond, none_beyond}
use Rattle.sets.proofs.Builders.{exactly_is}
use Rattle.sets.proofs.Members.{Remaining, left_begin, left_turn, left_end}

-- those gathered pass, and each that passes and is not left is gathered
pub record Sifted (f : ℕ → Bool) (all found rest : ℕ) : Type 0 where
  pub sound : (n : ℕ) → has found n ≡ true → f n ≡ true
  pub left : Remaining (λ n. f n ≡ true → has found n ≡ true) all rest

pub sift_begin : (f : ℕ → Bool) (all : ℕ) → Sifted f all 0 all
sift_begin f all = record { sound = λ n t. clash t (has_empty n); left = left_begin _ all }

module _ (f : ℕ → Bool) (all found rest m next : ℕ) (h : Sifted f all found rest) (e : Exactly next (λ n. has rest n and neg (eqb n m))) where
  -- m passes, and is gathered
  pub sift_take : (more : ℕ) → Exactly more (λ n. eqb n m or has found n) → f m ≡ true → Sifted f all more next
  sift_take more q t = record {
    sound = λ n u. ⊎_elim (λ v. ap f (eqb-true n m v) ∙ t) (λ v. h.sound n v) (or_cases _ _ (sym (q n) ∙ u));
    left = left_turn _ _ all rest next m h.left e (λ n p u. q n ∙ or_r _ _ (p u)) (λ u. q m ∙ or_l _ _ (eq-eqb m m refl));
  }

  -- m does not
  pub sift_skip : f m ≡ false → Sifted f all found next
  sift_skip t = record { sound = h.sound; left = left_turn _ _ all rest next m h.left e (λ n p. p) (λ u. clash u t) }

-- none is left, and none outside the set passes: the members gathered are those that pass
pub sift_end : (w : ℕ) (f : ℕ → Bool) (all found rest : ℕ) → Sifted f all found rest → rest ≡ 0 → ((n : ℕ) → f n ≡ true → has all n ≡ true)
    → all < 2 ^ w → found ≡ set_of w f
sift_end w f all found rest h z only l =
    exactly_is w found f
    (none_beyond w found (λ n m. not_so _ (λ t. clash (only n (h.sound n t)) (has_beyond w all n l m))))
    (λ n. same_test _ _ (h.sound n) (λ t. left_end _ all rest h.left z n (only n t) t))
