-- A loop that goes through the members of a set, the lowest first: `rest` holds those that are still to come.
-- Assumes nothing.
use mathlib.Core.Path.{◌≡◌, refl, sym, ap, ap₂, ◌∙◌}
use mathlib.Core.Logic.{⊎_elim}
use mathlib.Core.Bool.{Bool, true, false}
use Prim.Native.Nat.{ℕ, zero, suc, ◌-◌, ◌/◌, ◌%◌, ◌^◌, ◌<◌}
use native.Mathlib.Nat.{mod-lt, zero-lt-suc, pow-suc}
use native.Mathlib.Omega.{arith}
use lib.Bits.{bit_and}
use lib.Dec.{eqb}
use borrow.Author.Tests.{eq-eqb, ne_eqb, eqb-true}
use Rattle.sets.specs.Tests.{◌and◌, neg, pick}
use Rattle.sets.specs.Sets.{has, least, lowest, Exactly}
use Rattle.sets.proofs.Tests.{by_test, clash, same_test, and_l, and_given, and_fails_l, and_fails_r, neg_false}
use Rattle.sets.proofs.Digits.{has_low, has_half, has-and, has_empty, no_digit, lt_or_le, none_is_empty}
use Rattle.sets.proofs.Quantifiers.{least_same, least_below, least_at}

-- ---- a set without its lowest member

and_same : (a : Bool) → (a and a) ≡ (a and neg false)
unfolding ◌and◌ neg
and_same true = refl
and_same false = refl

one_more : (m n : ℕ) → eqb m n ≡ eqb (suc m) (suc n)
one_more m n =
    same_test (eqb m n) (eqb (suc m) (suc n)) (λ t. eq-eqb (suc m) (suc n) (ap suc (eqb-true m n t)))
    (λ t. let q : suc m ≡ suc n = eqb-true (suc m) (suc n) t in eq-eqb m n (omega (arith, q)))

below_lowest : (w s n : ℕ) → 0 < s → s < 2 ^ w → (has s n and has (s - 1) n) ≡ (has s n and neg (eqb n (least w (has s))))
unfolding least ◌and◌ neg
below_lowest zero s n l h = absurd (omega arith)
below_lowest (suc w) s n l h = go (below_lowest w (s / 2)) (s % 2) (mod-lt s (zero-lt-suc 1)) refl n
  where
    go : ((m : ℕ) → 0 < s / 2 → s / 2 < 2 ^ w → (has (s / 2) m and has (s / 2 - 1) m) ≡ (has (s / 2) m and neg (eqb m (least w (has (s / 2))))))
        → (d : ℕ) → d < 2 → s % 2 ≡ d → (n : ℕ) → (has s n and has (s - 1) n) ≡ (has s n and neg (eqb n (least (suc w) (has s))))
    go ih zero k e zero = and_fails_l _ _ (has_low s 0 e) ∙ sym (and_fails_l _ _ (has_low s 0 e))
    go ih zero k e (suc m) =
        ap₂ ◌and◌ (has_half s (s / 2) m refl) (has_half (s - 1) (s / 2 - 1) m (omega arith))
        ∙ ih m (omega arith) (omega (arith, pow-suc 2 w))
        ∙ ap₂ ◌and◌ (sym (has_half s (s / 2) m refl))
        (ap neg (ap (eqb m) (least_same w (has (s / 2)) (λ i. has s (suc i)) (λ i v. sym (has_half s (s / 2) i refl))) ∙ one_more m _)
        ∙ sym (ap (λ (b : Bool). neg (eqb (suc m) (pick b 0 (suc (least w (λ i. has s (suc i))))))) (has_low s 0 e)))
    go ih (suc zero) k e zero =
        and_fails_r (has s zero) (has (s - 1) zero) (has_low (s - 1) 0 (omega arith))
        ∙ sym (and_fails_r (has s zero) (neg (eqb zero (least (suc w) (has s))))
        (ap (λ (b : Bool). neg (eqb zero (pick b 0 (suc (least w (λ i. has s (suc i))))))) (has_low s 1 e)))
    go ih (suc zero) k e (suc m) =
        ap₂ ◌and◌ (has_half s (s / 2) m refl) (has_half (s - 1) (s / 2) m (omega arith)) ∙ and_same (has (s / 2) m)
        ∙ ap₂ ◌and◌ (sym (has_half s (s / 2) m refl))
        (sym
        (ap (λ (b : Bool). neg (eqb (suc m) (pick b 0 (suc (least w (λ i. has s (suc i))))))) (has_low s 1 e)
        ∙ ap neg (ne_eqb (suc m) 0 (omega arith))))
    go ih (suc (suc d)) k e n = no_digit k

pub has_without_lowest : (w s n : ℕ) → 0 < s → s < 2 ^ w → has (bit_and s (s - 1)) n ≡ (has s n and neg (eqb n (lowest w s)))
unfolding lowest
has_without_lowest w s n l h = has-and s (s - 1) n ∙ below_lowest w s n l h

-- a set that is not empty has a lowest member
pub lowest_below : (w s : ℕ) → 0 < s → s < 2 ^ w → lowest w s < w
unfolding lowest
lowest_below w s l h =
    ⊎_elim (λ k. k) (λ k. absurd (omega (arith, none_is_empty w s h (λ n m. least_below w (has s) n (omega arith))))) (lt_or_le (least w (has s)) w)

pub lowest_in : (w s : ℕ) → 0 < s → s < 2 ^ w → has s (lowest w s) ≡ true
unfolding lowest
lowest_in w s l h =
    least_at w (has s) (lowest_below w s l h)

-- ---- the loop: what is left are members, and P holds of each member that is not left
pub record Remaining (P : ℕ → Type 0) (all rest : ℕ) : Type 0 where
  pub within : (n : ℕ) → has rest n ≡ true → has all n ≡ true
  pub done : (n : ℕ) → has all n ≡ true → has rest n ≡ false → P n

pub left_begin : (P : ℕ → Type 0) (all : ℕ) → Remaining P all all
left_begin P all = record { within = λ n e. e; done = λ n e q. clash e q }

-- one member is taken; what holds of those before it holds after it too
pub left_turn : (P Q : ℕ → Type 0) (all rest next m : ℕ) → Remaining P all rest → Exactly next (λ n. has rest n and neg (eqb n m))
    → ((n : ℕ) → P n → Q n) → Q m → Remaining Q all next
left_turn P Q all rest next m h e keep q = record {
  within = λ n t. h.within n (and_l _ _ (sym (e n) ∙ t));
  done = λ n t u.
      by_test (has rest n)
      (λ v. subst_at n (eqb-true n m (neg_false _ (sym (and_given (has rest n) _ v) ∙ sym (e n) ∙ u))))
      (λ v. keep n (h.done n t v));
}
  where
    subst_at : (n : ℕ) → n ≡ m → Q n
    subst_at n p = rw p q

-- where none is left, P holds of each member
pub left_end : (P : ℕ → Type 0) (all rest : ℕ) → Remaining P all rest → rest ≡ 0 → (n : ℕ) → has all n ≡ true → P n
left_end P all rest h e n t = h.done n t (ap (λ (x : ℕ). has x n) e ∙ has_empty n)
