-- Demand 3, over every good policy and every officer.
-- Assumes nothing.
use mathlib.Core.Path.{◌≡◌, refl, sym, ap, ◌∙◌, subst}
use mathlib.Core.Logic.{◌⊎◌, ⊎_elim}
use mathlib.Core.Bool.{Bool, true, false}
use Prim.Native.Nat.{ℕ, zero, suc, ◌+◌, ◌*◌, ◌/◌, ◌%◌, ◌<◌, ◌≤◌}
use native.Mathlib.Omega.{arith}
use lib.Dec.{eqb}
use lib.ListN.{length}
use borrow.Author.Tests.{eqb-true, eqb-false}
use Rattle.sets.specs.Tests.{pick}
use Rattle.sets.specs.Sets.{has, count}
use Rattle.sets.proofs.Tests.{by_test, clash, not_so, and_l, and_r}
use Rattle.sets.proofs.Quantifiers.{count_add, count_le, any_fails}
use Rattle.order.specs.Order.{senior}
use Rattle.policy.specs.declared.Policy.{Policy}
use Rattle.policy.specs.Good.{Good}
use Rattle.policy.specs.Outcome.{first}
use Rattle.hierarchy.specs.declared.Site.{Site}
use Rattle.hierarchy.specs.Rules.{site}
use Rattle.hierarchy.proofs.Accepted.{delete_ok, create_fits, delete_fits, insert_fits, cut_fits}
use Rattle.safety.specs.Dominance.{may_change, Kept, Outside}
use Rattle.requests.specs.Requests.{ask, decide, rules_of}
use Rattle.requests.specs.Reached.{Reached}
use Rattle.requests.proofs.Decided.{every_request, reached_good}
use Rattle.requests.proofs.Safe.{create_safe, delete_safe, insert_safe, cut_safe}
use Rattle.listing.specs.Listing.{accepts, kind_at, a_at, b_at, place_count, listed_at, entry_count}
use Rattle.listing.specs.Listing.{entries_of, entries_for, EntryIs, InListing, InKinds, Earlier}
use Rattle.listing.proofs.Laws.{entries_length, accepts_delete}
use Rattle.listing.proofs.Entries.{count_below, entry_stands, PlaceOf, place_holding}
use Rattle.listing.proofs.Entries.{later_place, place_for, place_within, place_kind}
use Rattle.listing.proofs.Entries.{place_first, place_second, place_in_kinds, place_before}

module _ (p : Policy) (o : ℕ) where
  -- each place of the listing holds a request that would be accepted
  pub holds : (n : ℕ) → n < entry_count p o → PlaceOf (listed_at p o) place_count n
  unfolding entry_count
  holds n l = place_holding (listed_at p o) place_count n l

  stands_at : {n : ℕ} (x : PlaceOf (listed_at p o) place_count n) → EntryIs (entries_for p o) n (kind_at x.place) (a_at x.place) (b_at x.place)
  unfolding entries_for
  stands_at x =
      subst (λ (m : ℕ). EntryIs (entries_of (listed_at p o)) m (kind_at x.place) (a_at x.place) (b_at x.place))
      x.before (entry_stands (listed_at p o) x.place x.within x.passes)

  -- "every request of kinds 5 to 8 that would be accepted": an entry is in the listing only if the request would be accepted
  pub listed-accepted : {n k a b : ℕ} → InListing p o n k a b → (accepts p o k a b ≡ true) × InKinds k a b
  unfolding listed_at
  listed-accepted {n} h =
      let x = holds n h.below in
      let s = stands_at x in
      let ek = sym s.kind ∙ h.stands.kind in
      let ea = sym s.first ∙ h.stands.first in
      let eb = sym s.second ∙ h.stands.second in
      (rw (← ek, ← ea, ← eb) x.passes, rw (← ek, ← ea, ← eb) (place_in_kinds x.place x.within))

  -- and if it would be accepted, its entry stands there
  pub accepted-listed : {k a b : ℕ} → InKinds k a b → accepts p o k a b ≡ true → InListing p o (count (place_for k a b) (listed_at p o)) k a b
  unfolding listed_at entries_for entry_count
  accepted-listed {k} {a} {b} h t =
      let i = place_for k a b in
      let u : listed_at p o i ≡ true = rw (place_kind h, place_first h, place_second h) t in
      let e = entry_stands (listed_at p o) i (place_within h) u in
      record { below = count_below (listed_at p o) i place_count (place_within h) u; stands = rw (place_kind h, place_first h, place_second h) at e }

  -- "ordered by kind, then a, then b": an earlier entry comes before a later one, so that each stands once
  pub ascending : {n m k a b k' a' b' : ℕ} → InListing p o n k a b → InListing p o m k' a' b' → n < m → Earlier k a b k' a' b'
  ascending {n} {m} h g l =
      let x = holds n h.below in
      let y = holds m g.below in
      let s = stands_at x in
      let r = stands_at y in
      rw (
        ← (sym s.kind ∙ h.stands.kind),
        ← (sym s.first ∙ h.stands.first),
        ← (sym s.second ∙ h.stands.second),
        ← (sym r.kind ∙ g.stands.kind),
        ← (sym r.first ∙ g.stands.first),
        ← (sym r.second ∙ g.stands.second),
      )
      (place_before x.place y.place (later_place (listed_at p o) x y l))

  -- the bytes are three for each entry
  pub bytes_long : length (entries_for p o) ≡ 3 * entry_count p o
  unfolding entries_for entry_count
  bytes_long = entries_length (listed_at p o)

  -- kind 6 has b 0 alone
  delete_zero : (a b : ℕ) → accepts p o 6 a b ≡ true → eqb b 0 ≡ true
  delete_zero a b t = (delete_ok _ _ _ a b (eqb-true _ 0 (sym (accepts_delete p o a b) ∙ t))).zero

-- ---- "37,056 bytes are always enough"
count_mono : (f g : ℕ → Bool) (w : ℕ) → ((i : ℕ) → i < w → f i ≡ true → g i ≡ true) → count w f ≤ count w g
unfolding count
count_mono f g zero h = omega arith
count_mono f g (suc w) h = more (f w) (g w) (h w (omega arith)) (count_mono f g w (λ i l. h i (omega arith)))
  where
    more : (a b : Bool) → (a ≡ true → b ≡ true) → count w f ≤ count w g → count w f + pick a 1 0 ≤ count w g + pick b 1 0
    more true true k l = omega arith
    more true false k l = clash (k refl) refl
    more false true k l = omega arith
    more false false k l = omega arith

firsts : count 4096 (λ i. eqb (i % 64) 0) ≡ 64
unfolding count
firsts = refl

pub enough : (p : Policy) (o : ℕ) → 3 * entry_count p o ≤ 37056
unfolding entry_count listed_at
enough p o =
    omega (arith, split, count_le 4096 (listed_at p o), sixth, count_le 8192 (λ i. listed_at p o (4096 + (4096 + i))))
  where
    split : count place_count (listed_at p o)
        ≡ count 4096 (listed_at p o)
        + (count 4096 (λ i. listed_at p o (4096 + i)) + count 8192 (λ i. listed_at p o (4096 + (4096 + i))))
    split = count_add 4096 12288 (listed_at p o) ∙ ap (λ (x : ℕ). count 4096 (listed_at p o) + x) (count_add 4096 8192 (λ i. listed_at p o (4096 + i)))

    kind_six : (i : ℕ) → i < 4096 → 5 + (4096 + i) / 4096 ≡ 6
    kind_six i l = omega arith

    zero_b : (i : ℕ) → (4096 + i) % 64 ≡ i % 64
    zero_b i = omega arith

    sixth : count 4096 (λ i. listed_at p o (4096 + i)) ≤ 64
    sixth = subst (λ (x : ℕ). count 4096 (λ i. listed_at p o (4096 + i)) ≤ x) firsts
        (count_mono _ _ 4096 (λ i l t.
        let a = (4096 + i) / 64 % 64 in
        let b = (4096 + i) % 64 in
        ap (λ (x : ℕ). eqb x 0) (sym (zero_b i))
        ∙ delete_zero p o a b (ap (λ (k : ℕ). accepts p o k a b) (sym (kind_six i l)) ∙ t)))

-- ---- carrying out what is listed
zero_of : (p : Policy) (o c a b : ℕ) → accepts p o c a b ≡ true → first (rules_of p (ask o c a b)) ≡ 0
unfolding accepts
zero_of p o c a b u = sym (every_request p (ask o c a b)).outcome ∙ eqb-true _ 0 u

outcome_zero : (p : Policy) (o c a b : ℕ) → accepts p o c a b ≡ true → (decide p (ask o c a b)).outcome ≡ 0
unfolding accepts
outcome_zero p o c a b u = eqb-true _ 0 u

-- what holds at each of the four kinds holds of every kind from 5 to 8
four_kinds : (P : ℕ → Type 0) → P 5 → P 6 → P 7 → P 8 → (k : ℕ) → 5 ≤ k → k ≤ 8 → P k
four_kinds P p5 p6 p7 p8 k l m =
    by_test (eqb k 5) (λ e. at 5 (eqb-true k 5 e) p5) (λ n5.
    by_test (eqb k 6) (λ e. at 6 (eqb-true k 6 e) p6) (λ n6.
    by_test (eqb k 7) (λ e. at 7 (eqb-true k 7 e) p7) (λ n7. at 8 (eight (eqb-false k 5 n5) (eqb-false k 6 n6) (eqb-false k 7 n7)) p8)))
  where
    at : (c : ℕ) → k ≡ c → P c → P k
    at c e x = subst P (sym e) x

    eight : (k ≡ 5 → ⊥) → (k ≡ 6 → ⊥) → (k ≡ 7 → ⊥) → k ≡ 8
    eight n5 n6 n7 = omega arith

module _ (p : Policy) (o : ℕ) (g : Good p) where
  -- a request of kinds 5 to 8 that would be accepted names roles below 64, so that it is in the listing
  pub accepted_fits : (k a b : ℕ) → 5 ≤ k → k ≤ 8 → accepts p o k a b ≡ true → (a < 64) × (b < 64)
  unfolding rules_of site
  accepted_fits k a b l m =
      four_kinds (λ c. accepts p o c a b ≡ true → (a < 64) × (b < 64))
      (λ t. let f = create_fits (site p o) g.roles.width a b (zero_of p o 5 a b t) _ refl in (f.1, f.2))
      (λ t. (delete_fits (site p o) g.roles.width _ _ a b (zero_of p o 6 a b t), small b (delete_zero p o a b t)))
      (λ t. insert_fits (site p o) g.roles.width a b (zero_of p o 7 a b t))
      (λ t. cut_fits (site p o) g.roles.width a b (zero_of p o 8 a b t)) k l m
    where
      small : (b : ℕ) → eqb b 0 ≡ true → b < 64
      small b e = omega (arith, eqb-true b 0 e)

  -- so, of kinds 5 to 8, exactly what would be accepted is listed, whatever the numbers
  pub exactly : (k a b : ℕ) → 5 ≤ k → k ≤ 8 → accepts p o k a b ≡ true → InListing p o (count (place_for k a b) (listed_at p o)) k a b
  exactly k a b l m t =
      let f = accepted_fits k a b l m t in
      accepted-listed p o (record { least = l; most = m; first = f.0; second = f.1 }) t

  -- "Carrying out any of them leaves no cycle, every authority range encapsulated, no two overlapping in part; two roles keep their dominance
  -- unless both lie strictly inside one range this officer may modify."
  pub listed_safe : {n k a b : ℕ} → InListing p o n k a b → Kept (site p o) (decide p (ask o k a b)).policy.orders.roles
  listed_safe {n} {k} {a} {b} h =
      let u = listed-accepted p o h in
      four_kinds (λ c. accepts p o c a b ≡ true → Kept (site p o) (decide p (ask o c a b)).policy.orders.roles)
      (λ t. create_safe p o a b g (outcome_zero p o 5 a b t)) (λ t. delete_safe p o a b g (outcome_zero p o 6 a b t))
      (λ t. insert_safe p o a b g (outcome_zero p o 7 a b t)) (λ t. cut_safe p o a b g (outcome_zero p o 8 a b t)) k u.1.least u.1.most u.0

  -- the policy after is good again, so that both orders are strict and all this holds of it too
  pub listed_good : {n k a b : ℕ} → InListing p o n k a b → Good (decide p (ask o k a b)).policy
  listed_good {n} {k} {a} {b} h = (every_request p (ask o k a b)).good g

-- in every policy reached from a loaded one: it is good, so all of the above holds of it
pub reached-listed : {start p : Policy} (o : ℕ) → Good start → Reached start p → {n k a b : ℕ} → InListing p o n k a b
    → Kept (site p o) (decide p (ask o k a b)).policy.orders.roles
reached-listed o g r h = listed_safe _ o (reached_good g r) h

-- ---- the assessor's second question
outside_first : (s : Site) (x y : ℕ) → Outside s x → may_change s x y ≡ false
unfolding may_change
outside_first s x y h = any_fails _ _ (λ i l. not_so _ (λ t. clash (and_l _ _ (and_r _ _ t)) (h i l (and_l _ _ t))))

outside_second : (s : Site) (x y : ℕ) → Outside s y → may_change s x y ≡ false
unfolding may_change
outside_second s x y h = any_fails _ _ (λ i l. not_so _ (λ t. clash (and_r _ _ (and_r _ _ t)) (h i l (and_l _ _ t))))

-- where one of two roles lies outside every range that this officer may modify, no listed request changes their dominance
module _ (p : Policy) (o : ℕ) (g : Good p) {n k a b : ℕ} (h : InListing p o n k a b) (x y : ℕ)
    (ux : has p.orders.roles.used x ≡ true) (uy : has p.orders.roles.used y ≡ true) where
  abbrev after : Policy
  after = (decide p (ask o k a b)).policy

  pub untouched : has after.orders.roles.used x ≡ true → has after.orders.roles.used y ≡ true → Outside (site p o) x ⊎ Outside (site p o) y
      → senior after.orders.roles.juniors x y ≡ senior p.orders.roles.juniors x y
  unfolding site
  untouched vx vy w =
      (listed_safe p o g h).dominance x y ux uy vx vy (⊎_elim (outside_first (site p o) x y) (outside_second (site p o) x y) w)
