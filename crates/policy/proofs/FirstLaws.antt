-- Lists of refusals: when each number is given; and what a refusal leaves.
-- Assumes nothing.
use mathlib.Core.Path.{◌≡◌, refl, sym, ◌∙◌, subst}
use mathlib.Core.Logic.{◌⊎◌, inl, inr, ⊎_elim}
use mathlib.Core.Bool.{Bool, true, false}
use Prim.Native.Nat.{ℕ}
use lib.Dec.{eqb}
use borrow.Author.Tests.{eq-eqb, ne_eqb, eqb-true, eqb-false}
use Rattle.sets.specs.Tests.{◌and◌, ◌or◌, neg, pick}
use Rattle.sets.proofs.Tests.{by_test, clash, and_l, and_r, and_given, and_fails_l, or_given, or_l, or_r, neg_i, neg_e, neg_fails}
use Rattle.policy.specs.declared.Policy.{Policy}
use Rattle.policy.specs.Outcome.{Answer, Refusals, accept, refuse, first, answer}
use Rattle.policy.proofs.Outcomes.{answer_outcome, refused_stays}

-- ---- when a number is given
-- the list has the number n
unfoldable pub names : ℕ → Refusals → Bool
names n accept = false
names n (refuse b k r) = eqb k n or names n r

-- each number stands in the list once, and 0 does not
unfoldable pub distinct : Refusals → Bool
distinct accept = true
distinct (refuse b k r) = neg (eqb k 0) and neg (names k r) and distinct r

-- the condition of n holds, and none before it
unfoldable pub leads : ℕ → Refusals → Bool
leads n accept = false
leads n (refuse b k r) = pick (eqb k n) b (neg b and leads n r)

-- no condition holds
unfoldable pub clear : Refusals → Bool
clear accept = true
clear (refuse b k r) = neg b and clear r

-- what is given is 0 or in the list
first_named : (r : Refusals) → (first r ≡ 0) ⊎ (names (first r) r ≡ true)
unfolding first names
first_named accept = inl refl
first_named (refuse true k r) = inr (or_l _ _ (eq-eqb k k refl))
first_named (refuse false k r) = ⊎_elim (λ z. inl z) (λ t. inr (or_r _ _ t)) (first_named r)

not_given : (n : ℕ) (r : Refusals) → (n ≡ 0 → ⊥) → names n r ≡ false → eqb (first r) n ≡ false
not_given n r z t =
    ne_eqb (first r) n (λ e. ⊎_elim (λ o. z (sym e ∙ o)) (λ m. clash (subst (λ (k : ℕ). names k r ≡ true) e m) t) (first_named r))

-- each number of a list of distinct numbers is given exactly if its condition holds and none before it
pub first_leads : (n : ℕ) (r : Refusals) → distinct r ≡ true → names n r ≡ true → eqb (first r) n ≡ leads n r
unfolding first names distinct leads
first_leads n accept d m = clash m refl
first_leads n (refuse true k r) d m =
    by_test (eqb k n) (λ e. rw e) (λ e. rw e (sym (and_fails_l _ _ (neg_fails true refl))))
first_leads n (refuse false k r) d m =
    by_test (eqb k n)
    (λ e. rw e (not_given n r (λ z. eqb-false k 0 (neg_e _ (and_l _ _ d)) (eqb-true k n e ∙ z))
    (subst (λ (i : ℕ). names i r ≡ false) (eqb-true k n e) (neg_e _ (and_l _ _ (and_r _ _ d))))))
    (λ e. rw e (first_leads n r (and_r _ _ (and_r _ _ d)) (sym (or_given _ _ e) ∙ m) ∙ sym (and_given _ _ (neg_i false refl))))

-- and 0 exactly if no condition holds
pub first_clear : (r : Refusals) → distinct r ≡ true → eqb (first r) 0 ≡ clear r
unfolding first distinct clear
first_clear accept d = refl
first_clear (refuse true k r) d = neg_e _ (and_l _ _ d) ∙ sym (and_fails_l _ _ (neg_fails true refl))
first_clear (refuse false k r) d = first_clear r (and_r _ _ (and_r _ _ d)) ∙ sym (and_given _ _ (neg_i false refl))

-- ---- what an answer keeps
-- "Each leaves the policy unchanged and returns number 0 beside it."
pub record Unchanged (p : Policy) (r : Answer) : Type 0 where
  pub policy : (r.outcome ≡ 0 → ⊥) → r.policy ≡ p
  pub number : (r.outcome ≡ 0 → ⊥) → r.number ≡ 0

module _ (p : Policy) (n : ℕ) (q : Policy) (k : ℕ) where
  pub answer-unchanged : Unchanged p (answer p n q k)
  answer-unchanged =
      record {
        policy = λ z. rw (refused_stays p n q k (λ e. z (answer_outcome p n q k ∙ e)));
        number = λ z. rw (refused_stays p n q k (λ e. z (answer_outcome p n q k ∙ e)));
      }

  pub answer_number : k ≡ 0 → (answer p n q k).number ≡ 0
  unfolding answer
  answer_number z = by_test (eqb n 0) (λ t. rw t z) (λ t. rw t)
