-- Small sentences of document 01, each above its theorem. Assumes nothing.
use Prim.Native.Nat.{ℕ}
use mathlib.Core.Path.{◌≡◌, refl, sym, ap, ◌∙◌}
use mathlib.Core.Logic.{◌⊎◌, inl, inr, ⊎_elim}
use mathlib.Core.Bool.{Bool, true, false}
use mathlib.Core.List.{List}
use lib.Dec.{eqb}
use lib.ListN.{get_or}
use borrow.Author.Tests.{eqb-true, eq-eqb}
use Rattle.sets.specs.Tests.{◌and◌}
use Rattle.sets.specs.Sets.{has}
use Rattle.sets.proofs.Tests.{clash, not_so, and_l, and_r, and_fails_l, and_fails_r, or_cases, or_fails_l, or_fails_r, neg_e, implies_i}
use Rattle.sets.proofs.Digits.{lt_or_le, has_empty}
use Rattle.sets.proofs.Quantifiers.{all_of, any_fails, lowest_free_lem}
use Rattle.sets.proofs.Builders.{subset_at}
use Rattle.order.specs.Order.{Relation, Strict, comparable}
use Rattle.order.specs.Effects.{create}
use Rattle.ranges.specs.Ranges.{inside, in_range, encapsulated, overlap_in_part}
use Rattle.policy.specs.declared.Policy.{Policy}
use Rattle.policy.specs.Good.{Good, GoodSets}
use Rattle.policy.specs.Outcome.{Answer}
use Rattle.policy.specs.Build.{with_roles}
use Rattle.policy.specs.Outcome.{first, accepted}
use Rattle.policy.proofs.Outcomes.{accepted_is}
use Rattle.hierarchy.specs.Rules.{site, new_role, create_rules, create_role}
use Rattle.hierarchy.proofs.Accepted.{create_fits}
use Rattle.requests.specs.Requests.{ask, decide, rules_of}
use Rattle.requests.proofs.Decided.{every_request}

-- ---- "So [r, r) and ends that are not comparable give an empty range." f says who is senior to whom, and is strict

module _ (f : Relation) (strict : Strict f) where
  -- a role is in a range only if both ends are one role and included, or high is senior to low
  ends_of : (low high brackets x : ℕ) → in_range f low high brackets x ≡ true
      → ((low ≡ high) × (has brackets 1 ≡ true)) ⊎ (f high low ≡ true)
  unfolding in_range
  ends_of low high brackets x t = ⊎_elim at_low over_low (or_cases _ _ (and_l _ _ t))
    where
      at_low : (eqb x low and has brackets 0) ≡ true → ((low ≡ high) × (has brackets 1 ≡ true)) ⊎ (f high low ≡ true)
      at_low e =
          let x_low = eqb-true x low (and_l _ _ e) in
          ⊎_elim (λ (h : (eqb x high and has brackets 1) ≡ true). inl (sym x_low ∙ eqb-true x high (and_l _ _ h), and_r _ _ h))
          (λ (h : f high x ≡ true). inr (rw x_low at h)) (or_cases _ _ (and_r _ _ t))

      over_low : f x low ≡ true → ((low ≡ high) × (has brackets 1 ≡ true)) ⊎ (f high low ≡ true)
      over_low e =
          ⊎_elim (λ (h : (eqb x high and has brackets 1) ≡ true). inr (let x_high = eqb-true x high (and_l _ _ h) in rw x_high at e))
          (λ (h : f high x ≡ true). inr (strict.transitive high x low h e)) (or_cases _ _ (and_r _ _ t))

  pub half_open_empty : (r x : ℕ) → in_range f r r 1 x ≡ false
  unfolding has
  half_open_empty r x =
      not_so _ (λ t. ⊎_elim (λ e. clash e.1 refl) (λ e. clash e (strict.irreflexive r)) (ends_of r r 1 x t))

  pub apart_empty : (low high brackets x : ℕ) → comparable f low high ≡ false → in_range f low high brackets x ≡ false
  unfolding comparable
  apart_empty low high brackets x n =
      not_so _ (λ t. ⊎_elim (λ e. clash (eq-eqb _ _ e.0) (or_fails_l _ _ n))
      (λ e. clash e (or_fails_r _ _ (or_fails_r _ _ n))) (ends_of low high brackets x t))

-- ---- "Two ranges overlap in part if they share a role and each has one that the other lacks. Equal ranges don't."

pub equal_apart : (p : ℕ → Bool) → overlap_in_part p p ≡ false
unfolding overlap_in_part
equal_apart p =
    and_fails_r _ _ (and_fails_l _ _ (any_fails _ _ (λ r l. not_so _ (λ t. clash (and_l _ _ t) (neg_e _ (and_r _ _ t))))))

-- an empty range overlaps nothing in part, and is encapsulated: "It may be empty."
module _ (p q : ℕ → Bool) (empty : (r : ℕ) → p r ≡ false) where
  pub empty_apart : overlap_in_part p q ≡ false
  unfolding overlap_in_part
  empty_apart = and_fails_l _ _ (any_fails _ _ (λ r l. and_fails_l _ _ (empty r)))

  pub apart_empty_too : overlap_in_part q p ≡ false
  unfolding overlap_in_part
  apart_empty_too = and_fails_l _ _ (any_fails _ _ (λ r l. and_fails_r _ _ (empty r)))

pub empty_encapsulated : (used : ℕ) (f : Relation) (low high : ℕ) → ((r : ℕ) → inside f low high r ≡ false) → encapsulated used f low high ≡ true
unfolding encapsulated
empty_encapsulated used f low high empty = all_of _ _ (λ r l. implies_i _ _ (λ t. clash t (empty r)))

-- ---- kind 5: "the new role gets .. no members"

-- a number that is not in use is in no set of a good policy
module _ (used count : ℕ) (sets : List ℕ) (g : GoodSets used count sets) (n : ℕ) (free : has used n ≡ false) where
  in_none : (i : ℕ) → has (get_or sets i 0) n ≡ false
  in_none i =
      ⊎_elim (λ l. not_so _ (λ t. clash (subset_at 64 _ used (g.small i) (g.inner i l) n t) free))
      (λ l. ap (λ (s : ℕ). has s n) (g.rest i l) ∙ has_empty n) (lt_or_le i count)

-- where a creation is accepted, the new role was not in use before, and neither a user nor a permission is in it after
module _ (p : Policy) (g : Good p) (o a b : ℕ) (z : (decide p (ask o 5 a b)).outcome ≡ 0) where
  abbrev done : Answer
  done = decide p (ask o 5 a b)

  rules : first (create_rules (site p o) a b) ≡ 0
  unfolding rules_of
  rules = sym (every_request p (ask o 5 a b)).outcome ∙ z

  done_is : done ≡ accepted (with_roles p (create p.orders.roles (new_role (site p o)) a b)) (new_role (site p o))
  unfolding decide create_role
  done_is = accepted_is p _ _ _ rules

  new_is_free : has p.orders.roles.used (new_role (site p o)) ≡ false
  unfolding site new_role
  new_is_free = lowest_free_lem 64 p.orders.roles.used (create_fits (site p o) g.roles.width a b rules _ refl).0

  pub new_free : has p.orders.roles.used done.number ≡ false
  new_free = rw done_is new_is_free

  pub new_no_users : (u : ℕ) → has (get_or done.policy.people.users.roles u 0) done.number ≡ false
  new_no_users u = rw done_is (in_none _ _ _ g.users _ new_is_free u)

  pub new_no_permissions : (u : ℕ) → has (get_or done.policy.permissions.roles u 0) done.number ≡ false
  new_no_permissions u = rw done_is (in_none _ _ _ g.permissions _ new_is_free u)
