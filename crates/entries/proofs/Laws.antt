-- What each entry owes the functions it calls, and what it has once they are done. Assumes nothing.
use Prim.Native.Nat.{ℕ, ◌*◌, ◌<◌}
use mathlib.Core.Path.{◌≡◌, sym, ap, ◌∙◌}
use mathlib.Core.Logic.{⊎_elim}
use mathlib.Core.Bool.{Bool, true, false}
use mathlib.Core.List.{List}
use native.Mathlib.Omega.{arith}
use lib.Dec.{leb, ltb}
use lib.ListN.{length}
use Rattle.sets.specs.Tests.{pick}
use Rattle.std.specs.Prelude.{Result, Ok, Err, ⊤}
use Rattle.policy.specs.declared.Refusal.{Refusal}
use Rattle.policy.specs.declared.Refusal.TheVariants.{UnknownName, BufferTooShort}
use Rattle.policy.specs.declared.Policy.{Policy}
use Rattle.policy.specs.declared.Change.{Change}
use Rattle.policy.specs.Good.{Good}
use Rattle.policy.specs.Question.{question}
use Rattle.policy.specs.Outcome.{Answer, number, refused, accepted}
use Rattle.policy.specs.Change.{changed, beside, decided}
use Rattle.policy.proofs.Changes.{number_between}
use Rattle.requests.specs.declared.Request.{Request}
use Rattle.requests.specs.Requests.{decide}
use Rattle.requests.proofs.Decided.{every_request, outcome_given}
use Rattle.requests.proofs.Table.{given_below}
use Rattle.policy.specs.Build.{empty_policy}
use Rattle.number.specs.Run.{Step, go, stop}
use Rattle.reading.specs.declared.File.{File}
use Rattle.reading.specs.declared.FileError.{FileError}
use Rattle.reading.specs.File.{How, Accepted, Refused, as_how, error_number, error_place, Loaded, file_at, read_policy}
use Rattle.reading.specs.Joined.{FileGiven}
use Rattle.reading.proofs.Laws.{loaded_go, loaded_stop}
use Rattle.reading.proofs.Theorems.{accepted_good, refused-within}
use Rattle.parts.specs.Parts.{Part}
use Rattle.parts.specs.Parts as found
use Rattle.parts.specs.Parts.{part_at}
use Rattle.parts.proofs.Theorems.{part_refused}
use Rattle.trips.proofs.Places.{refused_near, part_near}
use Rattle.listing.specs.Listing.{ListingOf, entry_count, listed, listed_count}
use Rattle.listing.proofs.Promised.{enough}
use Rattle.answers.specs.Answers.{Fit, packed, refusal, of_file, of_listed, of_reply, of_part}
use Rattle.answers.specs.Carried.{CarriedOut}
use Rattle.answers.proofs.Laws.{fits, refused_carried}
use Rattle.entries.specs.Entries.{CheckOf, RequestOf, ListOf, QuestionOf, TableOf, request_fields}
use Rattle.entries.specs.Entries.{request_bytes, listing_fields, listing_bytes, question_fields}

-- ---- a file that was read: its policy, or its refusal

module _ (s : List ℕ) {x : File} where
  pub opened : {e : ℕ} → file_at s ≡ go e x → ◌≡◌ {A = Loaded} (record { how = Accepted; policy = x.policy }) (read_policy s)
  unfolding read_policy
  opened q = sym (loaded_go (file_at s) q)

pub not_opened : (s : List ℕ) {c p : ℕ} → file_at s ≡ stop c p → ◌≡◌ {A = Loaded} (record { how = Refused c p; policy = empty_policy }) (read_policy s)
unfolding read_policy
not_opened s q = sym (loaded_stop (file_at s) q)

-- how the reading ended, of which the reader's answer tells
pub told : (s : List ℕ) (x : File) (r : Result ⊤ FileError) → FileGiven (file_at s) r x → as_how r ≡ (read_policy s).how
told s x (Ok u) q = ap (λ (l : Loaded). l.how) (opened s q.1)
told s x (Err e) q = ap (λ (l : Loaded). l.how) (not_opened s q)

-- what a decision on a good policy always is, so that the answer fits its bits
pub record Ready (d : Answer) : Type 0 where
  pub good : Good d.policy
  pub outcome : d.outcome < 256
  pub number : d.number < 256

pub ready : (p : Policy) → Good p → (x : Request) {d : Answer} → d ≡ decide p x → Ready d
ready p good x {d} q =
    rw q
    (record {
      good = (every_request p x).good good;
      outcome = omega (arith, given_below _ _ (outcome_given p x));
      number = omega (arith, (every_request p x).role);
    })

module _ (s : List ℕ) where
  -- what is answered of a file fits its bits
  pub file_fits : (h : How) → h ≡ (read_policy s).how → Fit (of_file h)
  file_fits Accepted q = fits (omega arith) (omega arith) (omega arith) (omega arith)
  file_fits (Refused c p) q =
      let bad = sym q in
      fits (omega (arith, (refused-within s bad).high)) (omega arith) (omega (arith, refused_near s bad)) (omega arith)

  pub checked : {h : How} → h ≡ (read_policy s).how → {r : ℕ} → r ≡ packed (of_file h) → CheckOf s r
  checked e q = record { answer = q ∙ ap (λ k. packed (of_file k)) e }

  -- ---- a bad file: its refusal, and the buffer stays

  module _ {c p : ℕ} (bad : file_at s ≡ stop c p) where
    is_bad : (read_policy s).how ≡ Refused c p
    is_bad = sym (ap (λ (m : Loaded). m.how) (not_opened s bad))

    pub bad_fits : Fit (refusal c p)
    bad_fits = file_fits (Refused c p) (sym is_bad)

    module _ {r : ℕ} (answered : r ≡ packed (refusal c p)) where
      pub bad_request : (o : List ℕ) (x : Request) → RequestOf s x o r o
      unfolding request_fields request_bytes
      bad_request o x = record { answer = answered ∙ rw is_bad; bytes = rw is_bad }

      pub bad_listing : (o : List ℕ) (officer : ℕ) → ListOf s officer o r o
      unfolding listing_fields listing_bytes
      bad_listing o officer = record { answer = answered ∙ rw is_bad; bytes = rw is_bad }

      pub bad_question : (user permission : ℕ) → QuestionOf s user permission r
      unfolding question_fields
      bad_question user permission = record { answer = answered ∙ rw is_bad }

  -- ---- a policy file

  module _ {f : File} {end : ℕ} (ok : file_at s ≡ go end f) where
    is_ok : (read_policy s).how ≡ Accepted
    is_ok = sym (ap (λ (m : Loaded). m.how) (opened s ok))

    is_read : (read_policy s).policy ≡ f.policy
    is_read = sym (ap (λ (m : Loaded). m.policy) (opened s ok))

    pub loaded_good : Good f.policy
    loaded_good = rw (← is_read) (accepted_good s is_ok)

    good_request : (x : Request) {d : Answer} {o a : List ℕ} {r : ℕ} → d ≡ decide f.policy x → CarriedOut d o r a → RequestOf s x o r a
    unfolding request_fields request_bytes
    good_request x q done =
        record { answer = done.answer ∙ rw (is_ok, is_read, q); bytes = done.bytes ∙ rw (is_ok, is_read, q) }

    -- refused: the outcome alone, and the buffer stays
    pub refused_request : (x : Request) (n : Refusal) {o : List ℕ} {r : ℕ} → decided f.policy x.a (Err n) ≡ decide f.policy x
        → r ≡ packed (refusal (number n) 0) → RequestOf s x o r o
    refused_request x n {o} d q =
        good_request x d (refused_carried (refused f.policy (number n)) o (λ z. omega (arith, (number_between n).0)) q)

    -- accepted: the policy after is good, and is written
    module _ (x : Request) (c : Change) (d : decided f.policy x.a (Ok c) ≡ decide f.policy x) where
      pub after_ready : Ready (accepted (changed f.policy x.a c) (beside c))
      after_ready = ready f.policy loaded_good x d

      pub accepted_request : {o a : List ℕ} {r : ℕ} → CarriedOut (accepted (changed f.policy x.a c) (beside c)) o r a → RequestOf s x o r a
      accepted_request done = good_request x d done

    pub listed_fits : (officer : ℕ) {o a : List ℕ} {n : Result ℕ Refusal} → ListingOf f.policy officer o n a → Fit (of_listed n)
    unfolding listed listed_count
    listed_fits officer {o} w = rw w.is (by (leb f.policy.people.users.count officer) (ltb (length o) (3 * m)))
      where
        m : ℕ
        m = entry_count f.policy officer

        by : (t u : Bool) → Fit (of_listed (pick t (Err UnknownName) (pick u (Err BufferTooShort) (Ok m))))
        by true u = fits (omega arith) (omega arith) (omega arith) (omega arith)
        by false true = fits (omega arith) (omega arith) (omega arith) (omega arith)
        by false false =
            fits (omega arith) (omega arith) (omega arith) (omega (arith, enough f.policy officer))

    pub good_listing : (officer : ℕ) {o a : List ℕ} {n : Result ℕ Refusal} {r : ℕ} → ListingOf f.policy officer o n a
        → r ≡ packed (of_listed n) → ListOf s officer o r a
    unfolding listing_fields listing_bytes
    good_listing officer w q = record { answer = q ∙ rw (w.is, is_ok, is_read); bytes = w.bytes ∙ rw (is_ok, is_read) }

    pub good_question : (user permission : ℕ) {y : Result Bool Refusal} {r : ℕ} → y ≡ question f.policy user permission
        → r ≡ packed (of_reply y) → QuestionOf s user permission r
    unfolding question_fields
    good_question user permission w q = record { answer = q ∙ rw (w, is_ok, is_read) }

-- ---- the part of a table

pub part_fits : (s : List ℕ) (k : ℕ) {x : Part} → x ≡ part_at s k → Fit (of_part x)
part_fits s k {x} q = by x (sym q)
  where
    by : (y : Part) → part_at s k ≡ y → Fit (of_part y)
    by (found.Found start len) w =
        let n = part_near s k w in
        fits (omega arith) (omega arith) (omega (arith, n)) (omega (arith, n))
    by (found.Refused c p) w =
        ⊎_elim (λ u. rw (u.1, u.2) (fits (omega arith) (omega arith) (omega arith) (omega arith)))
        (λ u.
        fits (omega (arith, (refused-within s u.1).high)) (omega arith) (omega (arith, refused_near s u.1)) (omega arith)) (part_refused s k w)

pub part_answered : (s : List ℕ) (k : ℕ) {x : Part} {r : ℕ} → x ≡ part_at s k → r ≡ packed (of_part x) → TableOf s k r
part_answered s k q w = record { answer = w ∙ ap (λ y. packed (of_part y)) q }
