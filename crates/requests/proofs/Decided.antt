-- What every request gives, of every kind: its outcome is the first refusal that holds, a number that its kind may give; a refusal leaves the
-- policy; and a good policy stays good, so that every policy that is reached from a good one is good.
-- Assumes nothing.
use mathlib.Core.Path.{◌≡◌, refl, sym, ap, ◌∙◌}
use mathlib.Core.Logic.{⊎_elim}
use mathlib.Core.Bool.{Bool, true, false}
use Prim.Native.Nat.{ℕ, ◌≤◌}
use native.Mathlib.Omega.{arith}
use lib.Dec.{eqb}
use Rattle.std.specs.Prelude.{Option, Some, None}
use Rattle.sets.specs.Tests.{◌and◌, ◌or◌, pick}
use Rattle.sets.specs.Sets.{has, lowest_free}
use Rattle.sets.proofs.Quantifiers.{least_le}
use Rattle.sets.proofs.Tests.{and_l, and_r, or_cases}
use Rattle.policy.specs.declared.Policy.{Policy}
use Rattle.policy.specs.Good.{Good}
use Rattle.policy.specs.Outcome.{Answer, Refusals, accept, refuse, first, refused, accepted, answer}
use Rattle.policy.proofs.Outcomes.{answer_outcome}
use Rattle.policy.proofs.FirstLaws.{answer-unchanged}
use Rattle.members.specs.Rules.{assign_user, revoke_user, assign_permission, revoke_permission, assign_rules, revoke_rules}
use Rattle.members.proofs.Promised as members
use Rattle.hierarchy.specs.declared.Site.{Site}
use Rattle.hierarchy.specs.Rules.{site, new_role, create_role, delete_role, insert_edge, delete_edge, create_rules, delete_rules, insert_rules, cut_rules}
use Rattle.safety.proofs.Goodness.{create_good, delete_good, insert_good, cut_good}
use Rattle.requests.specs.declared.Request.{Request}
use Rattle.requests.specs.declared.Kind.{Kind}
use Rattle.requests.specs.declared.Kind.TheVariants.{AssignUser, RevokeUser, AssignPermission, RevokePermission}
use Rattle.requests.specs.declared.Kind.TheVariants.{CreateRole, DeleteRole, InsertEdge, DeleteEdge}
use Rattle.requests.specs.Kinds.{kind_of}
use Rattle.requests.specs.Requests.{answer_to, refusals_of, decide, rules_of}
use Rattle.requests.specs.Numbers.{may_give, NUMBERS, table_row}
use Rattle.requests.specs.Reached.{Reached, here, next}
use Rattle.requests.proofs.ByKind.{every, each_kind}
use Rattle.requests.proofs.Table.{row_is}

-- what is promised of an answer
pub record Decided (p : Policy) (refusals : Refusals) (r : Answer) : Type 0 where
  -- the outcome is the first refusal that holds
  pub outcome : r.outcome ≡ first refusals
  -- "Each leaves the policy unchanged and returns number 0 beside it."
  pub unchanged : (r.outcome ≡ 0 → ⊥) → r.policy ≡ p
  pub number : (r.outcome ≡ 0 → ⊥) → r.number ≡ 0
  pub good : Good p → Good r.policy
  pub role : r.number ≤ 64

-- the number beside it is a role's, or 0
answer_role : (p : Policy) (n : ℕ) (q : Policy) (k : ℕ) → k ≤ 64 → (answer p n q k).number ≤ 64
unfolding answer
answer_role p n q k l = by (eqb n 0)
  where
    by : (b : Bool) → (pick b (accepted q k) (refused p n)).number ≤ 64
    by true = l
    by false = omega arith

new_role_lem : (s : Site) → new_role s ≤ 64
unfolding new_role lowest_free
new_role_lem s = least_le 64 _

-- an answer made of the first refusal
decided : (p : Policy) (refusals : Refusals) (q : Policy) (k : ℕ) → k ≤ 64
    → (Good p → Good (answer p (first refusals) q k).policy) → Decided p refusals (answer p (first refusals) q k)
decided p r q k l g =
    let u = answer-unchanged p (first r) q k in
    record { outcome = answer_outcome p (first r) q k; unchanged = u.policy; number = u.number; good = g; role = answer_role p (first r) q k l }

-- a kind that is none of the eight: number 1
unknown_kind : (p : Policy) → Decided p (refuse true 1 accept) (refused p 1)
unfolding first
unknown_kind p = record { outcome = refl; unchanged = λ z. refl; number = λ z. refl; good = λ g. g; role = omega arith }

pub every_request : (p : Policy) (q : Request) → Decided p (rules_of p q) (decide p q)
unfolding decide rules_of assign_user revoke_user assign_permission revoke_permission create_role delete_role insert_edge delete_edge
every_request p q = by (kind_of q.kind) q.officer q.a q.b
  where
    by : (k : Option Kind) (o a b : ℕ) → Decided p (refusals_of k p o a b) (answer_to k p o a b)
    by (Some AssignUser) o a b = decided p _ _ _ (omega arith) (members.assign_user_lem p o a b).good
    by (Some RevokeUser) o a b = decided p _ _ _ (omega arith) (members.revoke_user_lem p o a b).good
    by (Some AssignPermission) o a b = decided p _ _ _ (omega arith) (members.assign_permission_lem p o a b).good
    by (Some RevokePermission) o a b = decided p _ _ _ (omega arith) (members.revoke_permission_lem p o a b).good
    by (Some CreateRole) o a b = decided p _ _ _ (new_role_lem (site p o)) (λ g. create_good p o g a b)
    by (Some DeleteRole) o a b = decided p _ _ _ (omega arith) (λ g. delete_good p o g a b)
    by (Some InsertEdge) o a b = decided p _ _ _ (omega arith) (λ g. insert_good p o g a b)
    by (Some DeleteEdge) o a b = decided p _ _ _ (omega arith) (λ g. cut_good p o g a b)
    by None o a b = unknown_kind p

-- ---- the constant table: "one rule proved over all entries and used for every request"

-- each number of the refusals, and acceptance, is in the row
names_in : ℕ → Refusals → Bool
names_in row accept = has row 0
names_in row (refuse b n r) = has row n and names_in row r

first_named : (row : ℕ) (r : Refusals) → names_in row r ≡ true → has row (first r) ≡ true
unfolding names_in first
first_named row accept e = e
first_named row (refuse true n r) e = and_l _ _ e
first_named row (refuse false n r) e = first_named row r (and_r _ _ e)

-- the row has all that is named, or at least what is given, as where the first condition is always true
fits : ℕ → Refusals → Bool
fits row r = names_in row r or has row (first r)

first_fits : (row : ℕ) (r : Refusals) → fits row r ≡ true → has row (first r) ≡ true
unfolding fits
first_fits row r e = ⊎_elim (first_named row r) (λ t. t) (or_cases _ _ e)

module _ (p : Policy) (q : Request) where
  -- one test, computed over the whole table: what the refusals of each kind name is in its row
  all_fit : (k : ℕ) → fits (table_row k) (refusals_of (kind_of k) p q.officer q.a q.b) ≡ true
  unfolding every NUMBERS has fits names_in first assign_rules revoke_rules create_rules delete_rules insert_rules cut_rules ◌and◌ ◌or◌
  all_fit k = each_kind (λ c row. fits row (refusals_of c p q.officer q.a q.b)) refl k

  -- the rule: the outcome of every request is in the row of its kind
  pub outcome_in_row : has (table_row q.kind) (decide p q).outcome ≡ true
  unfolding rules_of
  outcome_in_row = ap (has (table_row q.kind)) (every_request p q).outcome ∙ first_fits _ _ (all_fit q.kind)

  -- so it is one that document 01's table has for the kind
  pub outcome_given : may_give q.kind (decide p q).outcome ≡ true
  outcome_given = sym (row_is q.kind _) ∙ outcome_in_row

-- ---- every policy reached from a good one is good
pub reached_good : {start p : Policy} → Good start → Reached start p → Good p
reached_good g here = g
reached_good g (next {p = p} q r) = (every_request p q).good (reached_good g r)
