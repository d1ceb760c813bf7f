-- Kinds 5 to 8: when each number is given. `eqb n k ≡ t` says that the outcome n is k exactly if t.
-- Assumes nothing.
use mathlib.Core.Path.{◌≡◌, refl, ◌∙◌}
use mathlib.Core.Bool.{Bool, true}
use Prim.Native.Nat.{ℕ}
use lib.Dec.{eqb}
use Rattle.sets.specs.Tests.{◌and◌, ◌or◌, neg}
use Rattle.sets.proofs.Tests.{and_true, neg-neg}
use Rattle.order.specs.Order.{comparable, edge}
use Rattle.order.specs.Effects.{create, insert, cut_edge}
use Rattle.policy.specs.Outcome.{first}
use Rattle.policy.proofs.FirstLaws.{names as has_number, distinct, leads, clear, first_leads, first_clear}
use Rattle.hierarchy.specs.declared.Site.{Site}
use Rattle.hierarchy.specs.Rules.{over, may_modify, unknown_role, unknown_pair, full, new_role, spoils, create_rules, delete_rules, insert_rules, cut_rules}

-- ---- kind 5
module _ (s : Site) (a b : ℕ) where
  create_distinct : distinct (create_rules s a b) ≡ true
  unfolding create_rules distinct has_number ◌and◌ ◌or◌ neg
  create_distinct = refl

  pub create-unknown : eqb (first (create_rules s a b)) 2 ≡ unknown_pair s a b
  unfolding create_rules has_number leads ◌or◌
  create-unknown = first_leads 2 (create_rules s a b) create_distinct refl

  pub create_forbidden : eqb (first (create_rules s a b)) 3 ≡ (neg (unknown_pair s a b) and neg (may_modify s 5 a b))
  unfolding create_rules has_number leads ◌or◌
  create_forbidden = first_leads 3 (create_rules s a b) create_distinct refl

  pub create_idle : eqb (first (create_rules s a b)) 5 ≡ (neg (unknown_pair s a b) and may_modify s 5 a b and neg (over s a b))
  unfolding create_rules has_number leads ◌or◌
  create_idle = first_leads 5 (create_rules s a b) create_distinct refl ∙ simp neg-neg

  pub create-full : eqb (first (create_rules s a b)) 6 ≡ (neg (unknown_pair s a b) and may_modify s 5 a b and over s a b and full s)
  unfolding create_rules has_number leads ◌or◌
  create-full = first_leads 6 (create_rules s a b) create_distinct refl ∙ simp neg-neg

  pub create_spoilt : eqb (first (create_rules s a b)) 9
      ≡ (neg (unknown_pair s a b) and may_modify s 5 a b and over s a b and neg (full s) and spoils s (create s.roles (new_role s) a b))
  unfolding create_rules has_number leads ◌or◌
  create_spoilt = first_leads 9 (create_rules s a b) create_distinct refl ∙ simp neg-neg

  pub create-accepted : eqb (first (create_rules s a b)) 0
      ≡ (neg (unknown_pair s a b) and may_modify s 5 a b and over s a b and neg (full s) and neg (spoils s (create s.roles (new_role s) a b)))
  unfolding create_rules clear
  create-accepted = first_clear (create_rules s a b) create_distinct ∙ simp (neg-neg, and_true)

-- ---- kind 6; names and members say whether some row names a and whether someone is in a
module _ (s : Site) (names members : Bool) (a b : ℕ) where
  delete_distinct : distinct (delete_rules s names members a b) ≡ true
  unfolding delete_rules distinct has_number ◌and◌ ◌or◌ neg
  delete_distinct = refl

  pub delete_malformed : eqb (first (delete_rules s names members a b)) 1 ≡ neg (eqb b 0)
  unfolding delete_rules has_number leads ◌or◌
  delete_malformed = first_leads 1 (delete_rules s names members a b) delete_distinct refl

  pub delete_unknown : eqb (first (delete_rules s names members a b)) 2 ≡ (eqb b 0 and unknown_role s a)
  unfolding delete_rules has_number leads ◌or◌
  delete_unknown = first_leads 2 (delete_rules s names members a b) delete_distinct refl ∙ simp neg-neg

  pub delete_forbidden : eqb (first (delete_rules s names members a b)) 3 ≡ (eqb b 0 and neg (unknown_role s a) and neg (may_modify s 6 a b))
  unfolding delete_rules has_number leads ◌or◌
  delete_forbidden = first_leads 3 (delete_rules s names members a b) delete_distinct refl ∙ simp neg-neg

  pub delete_named : eqb (first (delete_rules s names members a b)) 7 ≡ (eqb b 0 and neg (unknown_role s a) and may_modify s 6 a b and names)
  unfolding delete_rules has_number leads ◌or◌
  delete_named = first_leads 7 (delete_rules s names members a b) delete_distinct refl ∙ simp neg-neg

  pub delete_occupied : eqb (first (delete_rules s names members a b)) 8 ≡ (eqb b 0 and neg (unknown_role s a) and may_modify s 6 a b and neg names and members)
  unfolding delete_rules has_number leads ◌or◌
  delete_occupied = first_leads 8 (delete_rules s names members a b) delete_distinct refl ∙ simp neg-neg

  pub delete_accepted : eqb (first (delete_rules s names members a b)) 0
      ≡ (eqb b 0 and neg (unknown_role s a) and may_modify s 6 a b and neg names and neg members)
  unfolding delete_rules clear
  delete_accepted = first_clear (delete_rules s names members a b) delete_distinct ∙ simp (neg-neg, and_true)

-- ---- kind 7
module _ (s : Site) (a b : ℕ) where
  insert_distinct : distinct (insert_rules s a b) ≡ true
  unfolding insert_rules distinct has_number ◌and◌ ◌or◌ neg
  insert_distinct = refl

  pub insert-unknown : eqb (first (insert_rules s a b)) 2 ≡ unknown_pair s a b
  unfolding insert_rules has_number leads ◌or◌
  insert-unknown = first_leads 2 (insert_rules s a b) insert_distinct refl

  pub insert_forbidden : eqb (first (insert_rules s a b)) 3 ≡ (neg (unknown_pair s a b) and neg (may_modify s 7 a b))
  unfolding insert_rules has_number leads ◌or◌
  insert_forbidden = first_leads 3 (insert_rules s a b) insert_distinct refl

  pub insert_idle : eqb (first (insert_rules s a b)) 5 ≡ (neg (unknown_pair s a b) and may_modify s 7 a b and comparable (over s) a b)
  unfolding insert_rules has_number leads ◌or◌
  insert_idle = first_leads 5 (insert_rules s a b) insert_distinct refl ∙ simp neg-neg

  pub insert_spoilt : eqb (first (insert_rules s a b)) 9
      ≡ (neg (unknown_pair s a b) and may_modify s 7 a b and neg (comparable (over s) a b) and spoils s (insert s.roles a b))
  unfolding insert_rules has_number leads ◌or◌
  insert_spoilt = first_leads 9 (insert_rules s a b) insert_distinct refl ∙ simp neg-neg

  pub insert-accepted : eqb (first (insert_rules s a b)) 0
      ≡ (neg (unknown_pair s a b) and may_modify s 7 a b and neg (comparable (over s) a b) and neg (spoils s (insert s.roles a b)))
  unfolding insert_rules clear
  insert-accepted = first_clear (insert_rules s a b) insert_distinct ∙ simp (neg-neg, and_true)

-- ---- kind 8
module _ (s : Site) (a b : ℕ) where
  cut_distinct : distinct (cut_rules s a b) ≡ true
  unfolding cut_rules distinct has_number ◌and◌ ◌or◌ neg
  cut_distinct = refl

  pub cut-unknown : eqb (first (cut_rules s a b)) 2 ≡ unknown_pair s a b
  unfolding cut_rules has_number leads ◌or◌
  cut-unknown = first_leads 2 (cut_rules s a b) cut_distinct refl

  pub cut_forbidden : eqb (first (cut_rules s a b)) 3 ≡ (neg (unknown_pair s a b) and neg (may_modify s 8 a b))
  unfolding cut_rules has_number leads ◌or◌
  cut_forbidden = first_leads 3 (cut_rules s a b) cut_distinct refl

  pub cut_idle : eqb (first (cut_rules s a b)) 5 ≡ (neg (unknown_pair s a b) and may_modify s 8 a b and neg (edge (over s) a b))
  unfolding cut_rules has_number leads ◌or◌
  cut_idle = first_leads 5 (cut_rules s a b) cut_distinct refl ∙ simp neg-neg

  pub cut_spoilt : eqb (first (cut_rules s a b)) 9 ≡ (neg (unknown_pair s a b) and may_modify s 8 a b and edge (over s) a b and spoils s (cut_edge s.roles a b))
  unfolding cut_rules has_number leads ◌or◌
  cut_spoilt = first_leads 9 (cut_rules s a b) cut_distinct refl ∙ simp neg-neg

  pub cut-accepted : eqb (first (cut_rules s a b)) 0
      ≡ (neg (unknown_pair s a b) and may_modify s 8 a b and edge (over s) a b and neg (spoils s (cut_edge s.roles a b)))
  unfolding cut_rules clear
  cut-accepted = first_clear (cut_rules s a b) cut_distinct ∙ simp (neg-neg, and_true)
