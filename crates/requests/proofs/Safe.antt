-- Demand 3's second half, for every request of kinds 5 to 8: where it is accepted on a good policy the order stays strict, every range stays sound,
-- and two roles present before and after keep their dominance unless both lie strictly inside one range that this officer may modify.
-- Assumes nothing.
use mathlib.Core.Path.{◌≡◌, sym, ap, ◌∙◌, subst}
use Prim.Native.Nat.{ℕ}
use Rattle.order.specs.declared.Order.{Order}
use Rattle.policy.specs.declared.Policy.{Policy}
use Rattle.policy.specs.Build.{with_roles}
use Rattle.policy.specs.Good.{Good}
use Rattle.policy.specs.Outcome.{Answer, first, answer}
use Rattle.policy.proofs.Outcomes.{accepted_is}
use Rattle.hierarchy.specs.Rules.{site, create_role, delete_role, insert_edge, delete_edge}
use Rattle.hierarchy.proofs.Accepted.{delete_ok}
use Rattle.safety.specs.Dominance.{Kept}
use Rattle.safety.proofs.Hierarchy.{good_site, create_kept, remove_kept, insert_kept, cut_kept}
use Rattle.safety.proofs.Goodness.{ranges_free}
use Rattle.requests.specs.declared.Request.{Request}
use Rattle.requests.specs.Requests.{ask, decide, rules_of}
use Rattle.requests.proofs.Decided.{every_request}

-- the order after an accepted request that changes the order of roles alone
order_after : (p : Policy) (n : ℕ) (r : Order) (k : ℕ) → n ≡ 0 → (answer p n (with_roles p r) k).policy.orders.roles ≡ r
order_after p n r k z = ap (λ (x : Answer). x.policy.orders.roles) (accepted_is p n (with_roles p r) k z)

module _ (p : Policy) (o a b : ℕ) (g : Good p) where
  -- s is the officer's site, kept what an accepted request leaves of it
  moved : (n : ℕ) (r : Order) (k : ℕ) → n ≡ 0 → Kept (site p o) r → Kept (site p o) (answer p n (with_roles p r) k).policy.orders.roles
  moved n r k z h = subst (Kept (site p o)) (sym (order_after p n r k z)) h

  abbrev q : ℕ → Request
  q k = ask o k a b

  accepted_first : (k : ℕ) → (decide p (q k)).outcome ≡ 0 → first (rules_of p (q k)) ≡ 0
  accepted_first k e = sym (every_request p (q k)).outcome ∙ e

  pub create_safe : (decide p (q 5)).outcome ≡ 0 → Kept (site p o) (decide p (q 5)).policy.orders.roles
  unfolding decide create_role rules_of site
  create_safe e = let z = accepted_first 5 e in moved _ _ _ z (create_kept _ (good_site p o g) a b z)

  pub delete_safe : (decide p (q 6)).outcome ≡ 0 → Kept (site p o) (decide p (q 6)).policy.orders.roles
  unfolding decide delete_role rules_of site
  delete_safe e =
      let z = accepted_first 6 e in
      let ok = delete_ok _ _ _ a b z in
      moved _ _ _ z (remove_kept _ (good_site p o g) a (ranges_free p o g a ok.unnamed ok.empty))

  pub insert_safe : (decide p (q 7)).outcome ≡ 0 → Kept (site p o) (decide p (q 7)).policy.orders.roles
  unfolding decide insert_edge rules_of site
  insert_safe e = let z = accepted_first 7 e in moved _ _ _ z (insert_kept _ (good_site p o g) a b z)

  pub cut_safe : (decide p (q 8)).outcome ≡ 0 → Kept (site p o) (decide p (q 8)).policy.orders.roles
  unfolding decide delete_edge rules_of site
  cut_safe e = let z = accepted_first 8 e in moved _ _ _ z (cut_kept _ (good_site p o g) a b z)
