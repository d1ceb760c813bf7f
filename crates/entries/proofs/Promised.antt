-- What the entries promise, for any bytes and numbers. Assumes nothing.
use Prim.Native.Nat.{ℕ, ◌+◌, ◌*◌, ◌≤◌, ◌<◌}
use mathlib.Core.Path.{◌≡◌, refl, sym, ◌∙◌, subst}
use mathlib.Core.Bool.{true}
use mathlib.Core.List.{List}
use native.Mathlib.Omega.{arith}
use lib.ListN.{length, get_or}
use lib.Seq.{sets}
use Rattle.sets.specs.Tests.{◌and◌, ◌or◌}
use Rattle.sets.proofs.Tests.{and_i, or_l, or_r}
use Rattle.policy.specs.declared.Policy.{Policy}
use Rattle.policy.specs.Outcome.{Answer}
use Rattle.requests.specs.declared.Request.{Request}
use Rattle.requests.specs.Requests.{decide}
use Rattle.requests.specs.Numbers.{among, may_give}
use Rattle.requests.specs.Reached.{Reached, here, next}
use Rattle.requests.proofs.Decided.{every_request, outcome_given}
use Rattle.number.specs.Number.{part}
use Rattle.number.proofs.Parts.{stands_byte, stands_part}
use Rattle.number.proofs.Stores.{sets_stands}
use Rattle.reading.specs.File.{Accepted}
use Rattle.reading.specs.File.{read_policy}
use Rattle.reading.proofs.Theorems.{accepted_good, refused-within}
use Rattle.layout.specs.Layout.{policy_bytes}
use Rattle.trips.proofs.ReadWritten.{read_written_policy}
use Rattle.listing.specs.Listing.{entry_count, entries_for}
use Rattle.answers.specs.Answers.{fields, apart}
use Rattle.answers.proofs.Laws.{outcome_of, length_of}
use Rattle.entries.specs.Entries.{CheckOf, RequestOf, ListOf, QuestionOf, TableOf}
use Rattle.entries.specs.Outcomes.{of_bad_file, check_gives, request_gives, listing_gives, question_gives, table_gives}
use Rattle.entries.specs.Steps as steps
use Rattle.entries.proofs.Ends as ends
use Rattle.entries.proofs.Refused.{bad_number}

-- ---- Two results that satisfy a contract are equal.

module _ {s : List ℕ} {r t : ℕ} where
  pub check_one : CheckOf s r → CheckOf s t → r ≡ t
  check_one v w = v.answer ∙ sym w.answer

  pub question_one : {user permission : ℕ} → QuestionOf s user permission r → QuestionOf s user permission t → r ≡ t
  question_one v w = v.answer ∙ sym w.answer

  pub table_one : {k : ℕ} → TableOf s k r → TableOf s k t → r ≡ t
  table_one v w = v.answer ∙ sym w.answer

  module _ {o a b : List ℕ} where
    pub request_one : {x : Request} → RequestOf s x o r a → RequestOf s x o t b → (r ≡ t) × (a ≡ b)
    request_one v w = (v.answer ∙ sym w.answer, v.bytes ∙ sym w.bytes)

    pub listing_one : {officer : ℕ} → ListOf s officer o r a → ListOf s officer o t b → (r ≡ t) × (a ≡ b)
    listing_one v w = (v.answer ∙ sym w.answer, v.bytes ∙ sym w.bytes)

-- ---- Which outcomes each entry may give.

-- the numbers beside a bad file's
check_some : check_gives 0 ≡ true
unfolding check_gives of_bad_file ◌and◌ ◌or◌
check_some = refl

listing_some : (listing_gives 0 ≡ true) × (listing_gives 2 ≡ true) × (listing_gives 10 ≡ true)
unfolding listing_gives of_bad_file among ◌and◌ ◌or◌
listing_some = (refl, refl, refl)

question_some : (question_gives 0 ≡ true) × (question_gives 2 ≡ true)
unfolding question_gives of_bad_file among ◌and◌ ◌or◌
question_some = (refl, refl)

table_some : (table_gives 0 ≡ true) × (table_gives 1 ≡ true)
unfolding table_gives of_bad_file among ◌and◌ ◌or◌
table_some = (refl, refl)

module _ (s : List ℕ) where
  pub check_gives_lem : {r : ℕ} → CheckOf s r → check_gives (apart r).outcome ≡ true
  unfolding check_gives
  check_gives_lem {r} w = by (ends.check_ends s w)
    where
      by : ends.CheckEnds s r → check_gives (apart r).outcome ≡ true
      by (ends.bad_file q e) = rw (outcome_of e) (or_l _ _ (bad_number s q))
      by (ends.good_file q e) = rw (outcome_of e) check_some

  pub request_gives_lem : (x : Request) (o : List ℕ) {r : ℕ} {a : List ℕ} → RequestOf s x o r a → request_gives x.kind (apart r).outcome ≡ true
  unfolding request_gives
  request_gives_lem x o {r} {a} w = by (ends.request_ends s x o w)
    where
      -- the rule of the constant table, for what was decided, and for acceptance
      in_table : {d : Answer} → d ≡ decide (read_policy s).policy x → may_give x.kind d.outcome ≡ true
      in_table d = rw d (outcome_given (read_policy s).policy x)

      accepted : {d : Answer} → d ≡ decide (read_policy s).policy x → d.outcome ≡ 0 → may_give x.kind 0 ≡ true
      accepted d z = rw z at (in_table d)

      by : ends.RequestEnds s x o r a → request_gives x.kind (apart r).outcome ≡ true
      by (ends.bad_file q e b) = rw (outcome_of e) (or_l _ _ (bad_number s q))
      by (ends.refused q d n e b) = rw (outcome_of e) (or_r _ _ (or_l _ _ (in_table d)))
      by (ends.too_short_lem q d z l e b) = rw (outcome_of e) (or_r _ _ (or_r _ _ (and_i _ _ (accepted d z) refl)))
      by (ends.done q d z l e b) = rw (outcome_of e) (or_r _ _ (or_l _ _ (accepted d z)))

  pub listing_gives_lem : (officer : ℕ) (o : List ℕ) {r : ℕ} {a : List ℕ} → ListOf s officer o r a → listing_gives (apart r).outcome ≡ true
  unfolding listing_gives
  listing_gives_lem officer o {r} {a} w = by (ends.listing_ends s officer o w)
    where
      by : ends.ListEnds s officer o r a → listing_gives (apart r).outcome ≡ true
      by (ends.bad_file q e b) = rw (outcome_of e) (or_l _ _ (bad_number s q))
      by (ends.unknown q d l e b) = rw (outcome_of e) listing_some.1
      by (ends.too_short_lem q d k l e b) = rw (outcome_of e) listing_some.2
      by (ends.done q d k l e b) = rw (outcome_of e) listing_some.0

  pub question_gives_lem : (user permission : ℕ) {r : ℕ} → QuestionOf s user permission r → question_gives (apart r).outcome ≡ true
  unfolding question_gives
  question_gives_lem user permission {r} w = by (ends.question_ends s user permission w)
    where
      by : ends.QuestionEnds s user permission r → question_gives (apart r).outcome ≡ true
      by (ends.bad_file q e) = rw (outcome_of e) (or_l _ _ (bad_number s q))
      by (ends.unknown q d e) = rw (outcome_of e) question_some.1
      by (ends.yes q d e) = rw (outcome_of e) question_some.0
      by (ends.no q d e) = rw (outcome_of e) question_some.0

  pub table_gives_lem : (k : ℕ) {r : ℕ} → TableOf s k r → table_gives (apart r).outcome ≡ true
  unfolding table_gives
  table_gives_lem k {r} w = by (ends.table_ends s k w)
    where
      by : ends.TableEnds s k r → table_gives (apart r).outcome ≡ true
      by (ends.no_table_lem q e) = rw (outcome_of e) table_some.1
      by (ends.bad_file k q e) = rw (outcome_of e) (or_l _ _ (bad_number s q))
      by (ends.done q e) = rw (outcome_of e) table_some.0

-- ---- What is accepted: an outcome of 0 leaves one way in which the entry has ended.

-- d is what was decided, s the file, o and a the buffer before and after
pub record RequestDone (s o : List ℕ) (d : Answer) (r : ℕ) (a : List ℕ) : Type 0 where
  pub loaded : (read_policy s).how ≡ Accepted
  pub outcome : d.outcome ≡ 0
  pub answer : apart r ≡ fields 0 d.number 0 (length (policy_bytes d.policy))
  pub room : length (policy_bytes d.policy) ≤ length o
  pub bytes : a ≡ sets o 0 (policy_bytes d.policy)

pub request_done : (s : List ℕ) (x : Request) (o : List ℕ) {r : ℕ} {a : List ℕ} → RequestOf s x o r a → (apart r).outcome ≡ 0
    → RequestDone s o (decide (read_policy s).policy x) r a
request_done s x o {r} {a} w z = by (ends.request_ends s x o w)
  where
    by : ends.RequestEnds s x o r a → RequestDone s o (decide (read_policy s).policy x) r a
    by (ends.bad_file q e b) = absurd (let l = (refused-within s q).low in omega (arith, outcome_of e, z))
    by (ends.refused q d n e b) = absurd (n (sym (outcome_of e) ∙ z))
    by (ends.too_short_lem q d y l e b) = absurd (omega (arith, outcome_of e, z))
    by (ends.done {d = k} q d y l e b) =
        subst (λ (h : Answer). RequestDone s o h r a) d
        (record { loaded = q; outcome = y; answer = e; room = l; bytes = b })

pub record ListingDone (p : Policy) (officer : ℕ) (o : List ℕ) (r : ℕ) (a : List ℕ) : Type 0 where
  pub answer : apart r ≡ fields 0 0 0 (entry_count p officer)
  pub room : 3 * entry_count p officer ≤ length o
  pub bytes : a ≡ sets o 0 (entries_for p officer)

pub listing_done : (s : List ℕ) (officer : ℕ) (o : List ℕ) {r : ℕ} {a : List ℕ} → ListOf s officer o r a → (apart r).outcome ≡ 0
    → ListingDone (read_policy s).policy officer o r a
listing_done s officer o {r} {a} w z = by (ends.listing_ends s officer o w)
  where
    by : ends.ListEnds s officer o r a → ListingDone (read_policy s).policy officer o r a
    by (ends.bad_file q e b) = absurd (let l = (refused-within s q).low in omega (arith, outcome_of e, z))
    by (ends.unknown q d l e b) = absurd (omega (arith, outcome_of e, z))
    by (ends.too_short_lem q d k l e b) = absurd (omega (arith, outcome_of e, z))
    by (ends.done q d k l e b) =
        subst (λ (h : Policy). ListingDone h officer o r a) d (record { answer = e; room = l; bytes = b })

-- ---- Any sequence of requests from a loaded file.

-- what is written stands in the buffer
pub byte_in : (bs o : List ℕ) (i : ℕ) → length bs ≤ length o → i < length bs → get_or (sets o 0 bs) i 0 ≡ get_or bs i 0
byte_in bs o i l h = let z : 0 + i ≡ i = omega arith in rw z at (stands_byte (sets_stands o 0 bs (omega arith)) i h)

written : (bs o : List ℕ) → length bs ≤ length o → part (sets o 0 bs) 0 (length bs) ≡ bs
written bs o l =
    let z : 0 + length bs ≡ length bs = omega arith in
    rw z at (stands_part (sets_stands o 0 bs (omega arith)))

-- the buffer up to the length that is returned is the file of the policy after the request
pub request_file : (s : List ℕ) (x : Request) (o : List ℕ) {r : ℕ} {a : List ℕ} → RequestOf s x o r a → (apart r).outcome ≡ 0
    → part a 0 (apart r).length ≡ policy_bytes (decide (read_policy s).policy x).policy
request_file s x o w z = let d = request_done s x o w z in rw (length_of d.answer, d.bytes) (written _ _ d.room)

pub file_reached : {start file : List ℕ} → (read_policy start).how ≡ Accepted → steps.FileReached start file
    → ((read_policy file).how ≡ Accepted) × Reached (read_policy start).policy (read_policy file).policy
file_reached ok steps.here = (ok, here)
file_reached ok (steps.next {file = file} {before = before} x run w z) =
    let (fine, way) = file_reached ok run in
    let f = request_file file x before w z in
    let g = (every_request (read_policy file).policy x).good (accepted_good file fine) in
    let l = read_written_policy (decide (read_policy file).policy x).policy g in
    rw (f, l) (refl, next x way)
