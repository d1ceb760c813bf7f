-- The answers of kinds 5 to 8: s is what the code finds of the officer, r why the request is refused or the order after.
-- Assumes nothing.
use mathlib.Core.Path.{◌≡◌, refl, ap, ◌∙◌}
use mathlib.Core.Bool.{Bool}
use Prim.Native.Nat.{ℕ}
use Rattle.std.specs.Prelude.{Ok, Err}
use Rattle.sets.specs.Tests.{◌or◌}
use Rattle.sets.specs.Sets.{lowest_free}
use Rattle.order.specs.declared.Order.{Order}
use Rattle.order.specs.Effects.{create, remove, insert, cut_edge}
use Rattle.policy.specs.declared.Policy.{Policy}
use Rattle.policy.specs.declared.Refusal.{Refusal}
use Rattle.policy.specs.declared.Change.TheVariants.{Hierarchy}
use Rattle.policy.specs.Build.{with_roles}
use Rattle.policy.specs.Outcome.{number, first}
use Rattle.policy.specs.Change.{decided}
use Rattle.policy.proofs.Changes.{decided-refused, decided-accepted}
use Rattle.hierarchy.specs.declared.Site.{Site}
use Rattle.hierarchy.specs.Rules.{site, new_role, named, some_in, create_rules, delete_rules, insert_rules, cut_rules}
use Rattle.hierarchy.specs.Rules.{create_role, delete_role, insert_edge, delete_edge}

module _ (p : Policy) (o a b : ℕ) {s : Site} (e : s ≡ site p o) where
  -- ---- kind 5
  pub create-refused : (r : Refusal) → number r ≡ first (create_rules s a b) → decided p a (Err r) ≡ create_role p o a b
  unfolding create_role
  create-refused r h = decided-refused p a _ _ _ r (h ∙ ap (λ (t : Site). first (create_rules t a b)) e)

  pub create-accepted : 0 ≡ first (create_rules s a b) → {n : ℕ} → n ≡ lowest_free 64 p.orders.roles.used
      → {r : Order} → r ≡ create p.orders.roles n a b → decided p a (Ok (Hierarchy r n)) ≡ create_role p o a b
  unfolding create_role new_role site
  create-accepted z d g =
      decided-accepted p a _ _ _ (Hierarchy _ _) (z ∙ ap (λ (t : Site). first (create_rules t a b)) e)
      (ap (with_roles p) (g ∙ ap (λ (n : ℕ). create p.orders.roles n a b) d)) d

  -- ---- kind 6; n and m are what the code finds of names and members
  module _ {n m : Bool} (t : n ≡ named p.tables p.modify a) (u : m ≡ (some_in p.people.users a or some_in p.permissions a)) where
    outcome_6 : first (delete_rules s n m a b)
        ≡ first (delete_rules (site p o) (named p.tables p.modify a) (some_in p.people.users a or some_in p.permissions a) a b)
    outcome_6 = rw (e, t, u)

    pub delete_refused : (r : Refusal) → number r ≡ first (delete_rules s n m a b) → decided p a (Err r) ≡ delete_role p o a b
    unfolding delete_role
    delete_refused r h = decided-refused p a _ _ _ r (h ∙ outcome_6)

    pub delete_accepted : 0 ≡ first (delete_rules s n m a b) → {r : Order} → r ≡ remove p.orders.roles a
        → decided p a (Ok (Hierarchy r 0)) ≡ delete_role p o a b
    unfolding delete_role
    delete_accepted z g = decided-accepted p a _ _ _ (Hierarchy _ _) (z ∙ outcome_6) (ap (with_roles p) g) refl

  -- ---- kind 7
  pub insert-refused : (r : Refusal) → number r ≡ first (insert_rules s a b) → decided p a (Err r) ≡ insert_edge p o a b
  unfolding insert_edge
  insert-refused r h = decided-refused p a _ _ _ r (h ∙ ap (λ (t : Site). first (insert_rules t a b)) e)

  pub insert-accepted : 0 ≡ first (insert_rules s a b) → {r : Order} → r ≡ insert p.orders.roles a b
      → decided p a (Ok (Hierarchy r 0)) ≡ insert_edge p o a b
  unfolding insert_edge
  insert-accepted z g =
      decided-accepted p a _ _ _ (Hierarchy _ _) (z ∙ ap (λ (t : Site). first (insert_rules t a b)) e) (ap (with_roles p) g) refl

  -- ---- kind 8
  pub cut-refused : (r : Refusal) → number r ≡ first (cut_rules s a b) → decided p a (Err r) ≡ delete_edge p o a b
  unfolding delete_edge
  cut-refused r h = decided-refused p a _ _ _ r (h ∙ ap (λ (t : Site). first (cut_rules t a b)) e)

  pub cut-accepted : 0 ≡ first (cut_rules s a b) → {r : Order} → r ≡ cut_edge p.orders.roles a b
      → decided p a (Ok (Hierarchy r 0)) ≡ delete_edge p o a b
  unfolding delete_edge
  cut-accepted z g =
      decided-accepted p a _ _ _ (Hierarchy _ _) (z ∙ ap (λ (t : Site). first (cut_rules t a b)) e) (ap (with_roles p) g) refl
