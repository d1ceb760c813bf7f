-- Kinds 1 to 4: when each number is given. `eqb n k ≡ t` says that the outcome n is k exactly if t.
-- Assumes nothing.
use mathlib.Core.Path.{◌≡◌, refl, ◌∙◌}
use mathlib.Core.Bool.{true}
use Prim.Native.Nat.{ℕ}
use lib.Dec.{eqb}
use Rattle.sets.specs.Tests.{◌and◌, ◌or◌, neg}
use Rattle.sets.specs.Sets.{has}
use Rattle.sets.proofs.Tests.{and_true, neg-neg}
use Rattle.policy.specs.Outcome.{first}
use Rattle.members.specs.declared.View.{View}
use Rattle.members.specs.Rules.{unknown, covered, granted, assign_rules, revoke_rules}
use Rattle.policy.proofs.FirstLaws.{names, distinct, leads, clear, first_leads, first_clear}

module _ (v : View) (b : ℕ) where
  -- ---- kinds 1 and 3
  assign_distinct : distinct (assign_rules v b) ≡ true
  unfolding assign_rules distinct names ◌and◌ ◌or◌ neg
  assign_distinct = refl

  pub assign_unknown : eqb (first (assign_rules v b)) 2 ≡ unknown v b
  unfolding assign_rules names leads ◌or◌
  assign_unknown = first_leads 2 (assign_rules v b) assign_distinct refl

  pub assign_uncovered : eqb (first (assign_rules v b)) 3 ≡ (neg (unknown v b) and neg (covered v b))
  unfolding assign_rules names leads ◌or◌
  assign_uncovered = first_leads 3 (assign_rules v b) assign_distinct refl

  pub assign_ungranted : eqb (first (assign_rules v b)) 4 ≡ (neg (unknown v b) and covered v b and neg (granted v b))
  unfolding assign_rules names leads ◌or◌
  assign_ungranted = first_leads 4 (assign_rules v b) assign_distinct refl ∙ simp neg-neg

  pub assign_idle : eqb (first (assign_rules v b)) 5 ≡ (neg (unknown v b) and covered v b and granted v b and has v.mine b)
  unfolding assign_rules names leads ◌or◌
  assign_idle = first_leads 5 (assign_rules v b) assign_distinct refl ∙ simp neg-neg

  pub assign_accepted : eqb (first (assign_rules v b)) 0 ≡ (neg (unknown v b) and covered v b and granted v b and neg (has v.mine b))
  unfolding assign_rules clear
  assign_accepted = first_clear (assign_rules v b) assign_distinct ∙ simp (neg-neg, and_true)

  -- ---- kinds 2 and 4
  revoke_distinct : distinct (revoke_rules v b) ≡ true
  unfolding revoke_rules distinct names ◌and◌ ◌or◌ neg
  revoke_distinct = refl

  pub revoke_unknown : eqb (first (revoke_rules v b)) 2 ≡ unknown v b
  unfolding revoke_rules names leads ◌or◌
  revoke_unknown = first_leads 2 (revoke_rules v b) revoke_distinct refl

  pub revoke_uncovered : eqb (first (revoke_rules v b)) 3 ≡ (neg (unknown v b) and neg (covered v b))
  unfolding revoke_rules names leads ◌or◌
  revoke_uncovered = first_leads 3 (revoke_rules v b) revoke_distinct refl

  pub revoke_idle : eqb (first (revoke_rules v b)) 5 ≡ (neg (unknown v b) and covered v b and neg (has v.mine b))
  unfolding revoke_rules names leads ◌or◌
  revoke_idle = first_leads 5 (revoke_rules v b) revoke_distinct refl ∙ simp neg-neg

  pub revoke_accepted : eqb (first (revoke_rules v b)) 0 ≡ (neg (unknown v b) and covered v b and has v.mine b)
  unfolding revoke_rules clear
  revoke_accepted = first_clear (revoke_rules v b) revoke_distinct ∙ simp (neg-neg, and_true)
