-- Demand 2, of requests: what an accepted one gives, when each number is given, and what kinds 1 and 2 look at. Assumes nothing.
use Prim.Native.Nat.{ℕ, ◌≤◌, ◌<◌}
use mathlib.Core.Path.{◌≡◌, sym, ap, ◌∙◌}
use mathlib.Core.List.{List}
use native.Mathlib.Omega.{arith}
use borrow.Author.Tests.{ne_eqb}
use lib.Dec.{eqb}
use lib.ListN.{length, get_or}
use Rattle.policy.specs.declared.Policy.{Policy}
use Rattle.policy.specs.Outcome.{Answer}
use Rattle.policy.specs.Outcome.{first}
use Rattle.requests.specs.declared.Request.{Request}
use Rattle.members.specs.Rules.{Agree}
use Rattle.members.proofs.Agreement.{assign_agrees, revoke_agrees}
use Rattle.requests.specs.Requests.{ask, decide, rules_of}
use Rattle.requests.specs.Numbers.{may_give}
use Rattle.requests.proofs.Decided.{every_request, outcome_given}
use Rattle.requests.proofs.Table.{given_below}
use Rattle.number.specs.Number.{part}
use Rattle.number.proofs.Stores.{sets_after}
use Rattle.reading.specs.File.{Accepted}
use Rattle.reading.specs.File.{read_policy}
use Rattle.reading.proofs.Theorems.{accepted_good}
use Rattle.layout.specs.Layout.{policy_bytes}
use Rattle.layout.proofs.Most.{always_enough}
use Rattle.trips.proofs.ReadWritten.{read_written_policy}
use Rattle.answers.specs.Answers.{fields, apart}
use Rattle.answers.proofs.Laws.{outcome_of, length_of}
use Rattle.entries.specs.Entries.{RequestOf}
use Rattle.entries.proofs.Ends as ends
use Rattle.entries.proofs.Refused.{not_bad}
use Rattle.entries.proofs.Promised.{RequestDone, request_done, request_file}

-- "Each accepted request gives exactly the policy that the rules define"

module _ {s : List ℕ} {x : Request} {o a : List ℕ} {r : ℕ} (w : RequestOf s x o r a) where
  module _ (z : (apart r).outcome ≡ 0) where
    abbrev then_policy : Policy
    then_policy = (decide (read_policy s).policy x).policy

    done : RequestDone s o (decide (read_policy s).policy x) r a
    done = request_done s x o w z

    -- the four numbers: 0, the number that the rules give, place 0, and the length of the file of the policy after
    pub accepted-answer : apart r ≡ fields 0 (decide (read_policy s).policy x).number 0 (length (policy_bytes then_policy))
    accepted-answer = done.answer

    -- what stands in the buffer, up to the length that is answered, is read as the policy after the request
    pub accepted_policy : read_policy (part a 0 (apart r).length) ≡ record { how = Accepted; policy = then_policy }
    accepted_policy =
        rw (request_file s x o w z)
        (read_written_policy then_policy ((every_request (read_policy s).policy x).good (accepted_good s done.loaded)))

    -- and is its file
    pub accepted_file : part a 0 (apart r).length ≡ policy_bytes then_policy
    accepted_file = request_file s x o w z

    -- later bytes stay
    pub later_stay : (k : ℕ) → (apart r).length ≤ k → get_or a k 0 ≡ get_or o k 0
    later_stay k h =
        ap (λ (l : List ℕ). get_or l k 0) done.bytes
        ∙ sets_after (policy_bytes then_policy) o 0 k (omega (arith, length_of done.answer, h))

  -- "each refusal is given exactly when its condition is the first that holds."

  -- Of a policy file, with the rules of the request's kind in their order:
  module _ (ok : (read_policy s).how ≡ Accepted) where
    abbrev before : Policy
    before = (read_policy s).policy

    abbrev given : ℕ
    given = first (rules_of before x)

    abbrev after : List ℕ
    after = policy_bytes (decide before x).policy

    given_is : {d : Answer} → d ≡ decide before x → d.outcome ≡ given
    given_is e = ap (λ (h : Answer). h.outcome) e ∙ (every_request before x).outcome

    given_small : given < 10
    given_small = given_below _ _ (ap (may_give x.kind) (sym (every_request before x).outcome) ∙ outcome_given before x)

    after_is : {d : Answer} → d ≡ decide before x → length (policy_bytes d.policy) ≡ length after
    after_is e = ap (λ (h : Answer). length (policy_bytes h.policy)) e

    -- 1 to 9: the first of the kind's refusals that holds is that number. `members/proofs/Numbers` and `hierarchy/proofs/Numbers` say of each kind
    -- and number what then holds
    pub refused_exactly : (n : ℕ) → 1 ≤ n → n ≤ 9 → eqb (apart r).outcome n ≡ eqb given n
    refused_exactly n l m = by (ends.request_ends s x o w)
      where
        by : ends.RequestEnds s x o r a → eqb (apart r).outcome n ≡ eqb given n
        by (ends.bad_file t e b) = not_bad s ok t
        by (ends.refused t d k e b) = ap (λ (c : ℕ). eqb c n) (outcome_of e ∙ given_is d)
        by (ends.too_short_lem t d y k e b) =
            ap (λ (c : ℕ). eqb c n) (outcome_of e) ∙ ne_eqb 10 n (λ q. omega arith)
            ∙ sym (ne_eqb given n (λ q. omega (arith, given_is d, y)))
        by (ends.done t d y k e b) = ap (λ (c : ℕ). eqb c n) (outcome_of e ∙ sym y ∙ given_is d)

    -- 10: none of them holds, and the buffer is shorter than the file
    pub short_only : (apart r).outcome ≡ 10 → (given ≡ 0) × (length o < length after)
    short_only z = by (ends.request_ends s x o w)
      where
        by : ends.RequestEnds s x o r a → (given ≡ 0) × (length o < length after)
        by (ends.bad_file t e b) = not_bad s ok t
        by (ends.refused t d k e b) = absurd (omega (arith, outcome_of e, given_is d, given_small, z))
        by (ends.too_short_lem t d y k e b) = (sym (given_is d) ∙ y, omega (arith, after_is d, k))
        by (ends.done t d y k e b) = absurd (omega (arith, outcome_of e, z))

    pub short_then : given ≡ 0 → length o < length after → (apart r).outcome ≡ 10
    short_then g l = by (ends.request_ends s x o w)
      where
        by : ends.RequestEnds s x o r a → (apart r).outcome ≡ 10
        by (ends.bad_file t e b) = not_bad s ok t
        by (ends.refused t d k e b) = absurd (k (given_is d ∙ g))
        by (ends.too_short_lem t d y k e b) = outcome_of e
        by (ends.done t d y k e b) = absurd (omega (arith, after_is d, k, l))

    -- 0: none of them holds, and the buffer is long enough
    pub accepted_only : (apart r).outcome ≡ 0 → (given ≡ 0) × (length after ≤ length o)
    accepted_only z = by (ends.request_ends s x o w)
      where
        by : ends.RequestEnds s x o r a → (given ≡ 0) × (length after ≤ length o)
        by (ends.bad_file t e b) = not_bad s ok t
        by (ends.refused t d k e b) = absurd (k (sym (outcome_of e) ∙ z))
        by (ends.too_short_lem t d y k e b) = absurd (omega (arith, outcome_of e, z))
        by (ends.done t d y k e b) = (sym (given_is d) ∙ y, omega (arith, after_is d, k))

    pub accepted_then : given ≡ 0 → length after ≤ length o → (apart r).outcome ≡ 0
    accepted_then g l = by (ends.request_ends s x o w)
      where
        by : ends.RequestEnds s x o r a → (apart r).outcome ≡ 0
        by (ends.bad_file t e b) = not_bad s ok t
        by (ends.refused t d k e b) = absurd (k (given_is d ∙ g))
        by (ends.too_short_lem t d y k e b) = absurd (omega (arith, after_is d, k, l))
        by (ends.done t d y k e b) = outcome_of e

    -- "10,375 bytes are always enough"
    pub room_enough : given ≡ 0 → 10375 ≤ length o → (apart r).outcome ≡ 0
    room_enough g l = accepted_then g (omega (arith, always_enough _ ((every_request before x).good (accepted_good s ok)), l))

    -- so with such a buffer the outcome is the rules' own
    pub outcome_decided : 10375 ≤ length o → (apart r).outcome ≡ (decide before x).outcome
    outcome_decided l = by (ends.request_ends s x o w)
      where
        by : ends.RequestEnds s x o r a → (apart r).outcome ≡ (decide before x).outcome
        by (ends.bad_file t e b) = not_bad s ok t
        by (ends.refused t d k e b) = outcome_of e ∙ ap (λ (h : Answer). h.outcome) d
        by (ends.too_short_lem {d = d} t q y k e b) =
            absurd (omega (arith, k, l, after_is q, always_enough _ ((every_request before x).good (accepted_good s ok))))
        by (ends.done t d y k e b) = outcome_of e ∙ sym y ∙ ap (λ (h : Answer). h.outcome) d

-- "What kinds 1 and 2 look at: the counts of users, roles in use, both orders, the officer's administrative set, user a's roles, and the one table
-- for the kind. Two policies that agree on these give the same outcome": s and t are two policy files, asked for the same with room for an answer.
module _ {s t : List ℕ} (ok : (read_policy s).how ≡ Accepted) (fine : (read_policy t).how ≡ Accepted) (officer a b : ℕ) {o o' u u' : List ℕ} {r r' : ℕ}
    (l : 10375 ≤ length o) (l' : 10375 ≤ length o') where
  pub assign_agrees_by_entry : Agree (λ t. t.assign) (read_policy s).policy (read_policy t).policy officer a
      → RequestOf s (ask officer 1 a b) o r u → RequestOf t (ask officer 1 a b) o' r' u' → (apart r).outcome ≡ (apart r').outcome
  unfolding decide
  assign_agrees_by_entry h w v =
      outcome_decided w ok l ∙ assign_agrees (read_policy s).policy (read_policy t).policy officer a b h ∙ sym (outcome_decided v fine l')

  pub revoke_agrees_by_entry : Agree (λ t. t.revoke) (read_policy s).policy (read_policy t).policy officer a
      → RequestOf s (ask officer 2 a b) o r u → RequestOf t (ask officer 2 a b) o' r' u' → (apart r).outcome ≡ (apart r').outcome
  unfolding decide
  revoke_agrees_by_entry h w v =
      outcome_decided w ok l ∙ revoke_agrees (read_policy s).policy (read_policy t).policy officer a b h ∙ sym (outcome_decided v fine l')
