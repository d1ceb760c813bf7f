-- The laws of refusals in their order. "First that holds, in this order."
--   first_that_holds   the set by which every return of a function that answers the first refusal is proved
--   passed             where a request is accepted, the condition of each number does not hold
--   answer-..          the answer to a request, by its outcome
-- Assumes nothing.
use mathlib.Core.Path.{◌≡◌, refl, sym, ◌∙◌}
use mathlib.Core.Bool.{Bool, true, false, not}
use Prim.Native.Nat.{ℕ}
use lib.Dec.{eqb}
use borrow.Author.Tests.{not-true, not-false, eq-eqb, ne_eqb, eqb-true, eqb-false}
use Rattle.sets.specs.Tests.{◌and◌, neg, pick}
use Rattle.sets.proofs.Tests.{by_test, and_l, and_r, neg_i, neg_e, neg_fails}
use Rattle.policy.specs.declared.Policy.{Policy}
use Rattle.policy.specs.Outcome.{Refusals, accept, refuse, first, refused, accepted, answer}

-- ---- the first that holds

-- a condition that holds gives its number; one that does not leaves it to the rest
pub first_here : (b : Bool) (n : ℕ) (r : Refusals) → b ≡ true → n ≡ first (refuse b n r)
unfolding first
first_here b n r e = rw e

pub first_next : (b : Bool) (n : ℕ) (r : Refusals) {m : ℕ} → b ≡ false → m ≡ first r → m ≡ first (refuse b n r)
unfolding first
first_next b n r e q = rw e q

pub first_none : 0 ≡ first accept
unfolding first
first_none = refl

-- t is what the code finds of the condition b, and asks for as it stands or denied
module _ {b t : Bool} (e : t ≡ b) where
  pub asked_true : t ≡ true → b ≡ true
  asked_true h = sym e ∙ h

  pub asked_false : t ≡ false → b ≡ false
  asked_false h = sym e ∙ h

  pub denied_true : not t ≡ true → b ≡ false
  denied_true h = sym e ∙ not-true t h

  pub denied_false : not t ≡ false → b ≡ true
  denied_false h = sym e ∙ not-false t h

-- Every return of a flat list of tests, each a function whose contract is its condition: `search first_that_holds depth 12`. It reads what each
-- test found by itself, so a test that is added or moved changes no line. Past some ten tests the search meets its bound: cut the list in two.
pub ruleset first_that_holds = (first_here, first_next, first_none, neg_i, neg_fails, asked_true, asked_false, denied_true, denied_false, eq-eqb, ne_eqb)

-- ---- where a request is accepted, the condition of each number does not hold

-- the condition of the number n
unfoldable pub condition : ℕ → Refusals → Bool
condition n accept = false
condition n (refuse b k r) = pick (eqb k n) b (condition n r)

-- no number is 0
unfoldable pub nonzero : Refusals → Bool
nonzero accept = true
nonzero (refuse b k r) = neg (eqb k 0) and nonzero r

pub passed : (n : ℕ) (r : Refusals) → nonzero r ≡ true → first r ≡ 0 → condition n r ≡ false
unfolding condition nonzero first
passed n accept z e = refl
passed n (refuse true k r) z e = absurd (eqb-false k 0 (neg_e _ (and_l _ _ z)) e)
passed n (refuse false k r) z e = by_test (eqb k n) (λ t. rw t) (λ t. rw t (passed n r (and_r _ _ z) e))

-- ---- the answer: m is the outcome that the code finds
module _ (p : Policy) (n : ℕ) (q : Policy) (k : ℕ) {m : ℕ} (e : m ≡ n) where
  pub answer-refused : (m ≡ 0 → ⊥) → refused p m ≡ answer p n q k
  unfolding answer
  answer-refused z = rw (ne_eqb n 0 (λ c. z (e ∙ c)), e)

  pub answer-accepted : m ≡ 0 → {q' : Policy} {k' : ℕ} → q' ≡ q → k' ≡ k → accepted q' k' ≡ answer p n q k
  unfolding answer
  answer-accepted z d h = rw (eq-eqb n 0 (sym e ∙ z), d, h)

-- what an answer says, by its outcome
pub answer_outcome : (p : Policy) (n : ℕ) (q : Policy) (k : ℕ) → (answer p n q k).outcome ≡ n
unfolding answer
answer_outcome p n q k = by_test (eqb n 0) (λ t. rw t (sym (eqb-true n 0 t))) (λ t. rw t)

pub refused_stays : (p : Policy) (n : ℕ) (q : Policy) (k : ℕ) → (n ≡ 0 → ⊥) → answer p n q k ≡ refused p n
unfolding answer
refused_stays p n q k z = rw (ne_eqb n 0 z)

pub accepted_is : (p : Policy) (n : ℕ) (q : Policy) (k : ℕ) → n ≡ 0 → answer p n q k ≡ accepted q k
unfolding answer
accepted_is p n q k z = rw (eq-eqb n 0 z)

-- what holds of the policy before, and of the one after where the request is accepted, holds of the answer's policy
pub answer_policy : (P : Policy → Type 0) (p : Policy) (n : ℕ) (q : Policy) (k : ℕ) → P p → (n ≡ 0 → P q) → P (answer p n q k).policy
unfolding answer
answer_policy P p n q k x y = by_test (eqb n 0) (λ t. rw t (y (eqb-true n 0 t))) (λ t. rw t x)
