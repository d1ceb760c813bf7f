-- Demand 1. Assumes nothing.
use Prim.Native.Nat.{ℕ, ◌+◌, ◌≤◌}
use mathlib.Core.Path.{◌≡◌}
use mathlib.Core.Bool.{true}
use mathlib.Core.List.{List}
use native.Mathlib.Omega.{arith}
use lib.ListN.{length}
use Rattle.policy.specs.declared.Policy.{Policy}
use Rattle.requests.specs.declared.Request.{Request}
use Rattle.requests.specs.Requests.{decide}
use Rattle.requests.proofs.Decided.{every_request}
use Rattle.reading.proofs.Theorems.{refused-within}
use Rattle.parts.proofs.Laws.{found_inside}
use Rattle.answers.specs.Answers.{apart}
use Rattle.answers.proofs.Laws.{place_of, length_of}
use Rattle.entries.specs.Entries.{CheckOf, RequestOf, ListOf, QuestionOf, TableOf}
use Rattle.entries.specs.Outcomes.{Refusal, check_gives, request_gives, listing_gives, question_gives, table_gives}
use Rattle.entries.proofs.Ends as ends
use Rattle.entries.proofs.Refused as entries-refused
use Rattle.entries.proofs.Promised as entries

-- "Every policy file and every request, however damaged, gets an outcome from the table."

-- That each entry returns, whatever it is given, is what the checker shows of its code. Its answer is the only one that meets the contract, with
-- one content of the buffer: s is the file, o the lent buffer before, a and b after.
module _ {s : List ℕ} {r t : ℕ} where
  pub check_one : CheckOf s r → CheckOf s t → r ≡ t
  check_one = entries.check_one

  pub question_one : {user permission : ℕ} → QuestionOf s user permission r → QuestionOf s user permission t → r ≡ t
  question_one = entries.question_one

  pub table_one : {k : ℕ} → TableOf s k r → TableOf s k t → r ≡ t
  table_one = entries.table_one

  pub request_one : {x : Request} {o a b : List ℕ} → RequestOf s x o r a → RequestOf s x o t b → (r ≡ t) × (a ≡ b)
  request_one = entries.request_one

  pub listing_one : {officer : ℕ} {o a b : List ℕ} → ListOf s officer o r a → ListOf s officer o t b → (r ≡ t) × (a ≡ b)
  listing_one = entries.listing_one

-- Its outcome is one of the table's: a bad file's, and those of the entry; for a request, of its kind, by the rule of the constant table, and 10
-- only where the kind may be accepted.
module _ {s : List ℕ} {r : ℕ} where
  pub check_outcome : CheckOf s r → check_gives (apart r).outcome ≡ true
  check_outcome = entries.check_gives_lem s

  pub request_outcome : {x : Request} {o a : List ℕ} → RequestOf s x o r a → request_gives x.kind (apart r).outcome ≡ true
  request_outcome = entries.request_gives_lem s _ _

  pub listing_outcome : {officer : ℕ} {o a : List ℕ} → ListOf s officer o r a → listing_gives (apart r).outcome ≡ true
  listing_outcome = entries.listing_gives_lem s _ _

  pub question_outcome : {user permission : ℕ} → QuestionOf s user permission r → question_gives (apart r).outcome ≡ true
  question_outcome = entries.question_gives_lem s _ _

  pub table_outcome : {k : ℕ} → TableOf s k r → table_gives (apart r).outcome ≡ true
  table_outcome = entries.table_gives_lem s _

-- "Entry points check for themselves."

-- No entry has a `requires`: what is above holds of any bytes, numbers and lengths. A place that is answered is one of the input's, and a part
-- that is answered stands inside it.
pub check_place : {s : List ℕ} {r : ℕ} → CheckOf s r → (apart r).place ≤ length s
check_place {s} {r} w = by (ends.check_ends s w)
  where
    by : ends.CheckEnds s r → (apart r).place ≤ length s
    by (ends.bad_file q e) = omega (arith, place_of e, (refused-within s q).place)
    by (ends.good_file q e) = omega (arith, place_of e)

pub table-inside : {s : List ℕ} {k r : ℕ} → TableOf s k r → (apart r).place + (apart r).length ≤ length s
table-inside {s} {k} {r} w = by (ends.table_ends s k w)
  where
    by : ends.TableEnds s k r → (apart r).place + (apart r).length ≤ length s
    by (ends.no_table_lem q e) = omega (arith, place_of e, length_of e)
    by (ends.bad_file t q e) = omega (arith, place_of e, length_of e, (refused-within s q).place)
    by (ends.done q e) = omega (arith, place_of e, length_of e, (found_inside s k q).1)

-- "A refusal leaves the policy and all lent memory unchanged." Number and length are 0, and so is the place unless the file is bad.

module _ {s : List ℕ} {r : ℕ} (n : (apart r).outcome ≡ 0 → ⊥) where
  pub check_refusal : CheckOf s r → Refusal (apart r)
  check_refusal = entries-refused.check_refused s n

  pub question-refusal : {user permission : ℕ} → QuestionOf s user permission r → Refusal (apart r)
  question-refusal = entries-refused.question-refused s n _ _

  pub table-refusal : {k : ℕ} → TableOf s k r → Refusal (apart r)
  table-refusal = entries-refused.table-refused s n _

  module _ {o a : List ℕ} where
    pub request_stays : {x : Request} → RequestOf s x o r a → Refusal (apart r) × (a ≡ o)
    request_stays = entries-refused.request_refused s n _

    pub listing_stays : {officer : ℕ} → ListOf s officer o r a → Refusal (apart r) × (a ≡ o)
    listing_stays = entries-refused.listing_refused s n _

pub policy_stays : (p : Policy) (x : Request) → ((decide p x).outcome ≡ 0 → ⊥) → (decide p x).policy ≡ p
policy_stays p x = (every_request p x).unchanged
