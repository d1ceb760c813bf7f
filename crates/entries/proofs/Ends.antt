-- How each entry ends: one of a few ways, each with its condition, the four numbers that are answered and the bytes that are left.
-- Assumes nothing.
use Prim.Native.Nat.{ℕ, ◌*◌, ◌≤◌, ◌<◌}
use mathlib.Core.Path.{◌≡◌, refl, sym, ap, ◌∙◌}
use mathlib.Core.Logic.{⊎_elim}
use mathlib.Core.Bool.{Bool, true, false}
use mathlib.Core.List.{List}
use native.Mathlib.Omega.{arith}
use borrow.Author.Tests.{ne_eqb, le-leb, lt-leb, lt-ltb, le-ltb}
use lib.ListN.{length}
use lib.Seq.{sets}
use Rattle.sets.specs.Tests.{pick}
use Rattle.sets.proofs.Digits.{lt_or_le}
use Rattle.policy.specs.declared.Policy.{Policy}
use Rattle.policy.specs.Outcome.{Answer}
use Rattle.std.specs.Prelude.{Result, Ok, Err}
use Rattle.policy.specs.declared.Refusal.{Refusal}
use Rattle.policy.specs.declared.Refusal.TheVariants.{UnknownName}
use Rattle.policy.proofs.Changes.{number_between}
use Rattle.policy.specs.Question.{question, reply_value}
use Rattle.requests.specs.declared.Request.{Request}
use Rattle.requests.specs.Requests.{decide}
use Rattle.reading.specs.File.{How}
use Rattle.reading.specs.File.{Accepted, Refused}
use Rattle.reading.specs.File.{read_policy}
use Rattle.reading.proofs.Theorems.{accepted_good}
use Rattle.parts.specs.Parts.{Part}
use Rattle.parts.specs.Parts as found
use Rattle.parts.specs.Parts.{is_table, part_at}
use Rattle.parts.proofs.Theorems.{part_refused}
use Rattle.layout.specs.Layout.{policy_bytes}
use Rattle.layout.proofs.Most.{always_enough}
use Rattle.writing.specs.Writing.{written_outcome, written_length}
use Rattle.writing.proofs.Outputs.{short_answer, short_bytes, long_answer, long_bytes}
use Rattle.listing.specs.Listing.{entry_count, listed, filled, listed_count}
use Rattle.listing.specs.Listing as listing
use Rattle.listing.proofs.Promised.{enough}
use Rattle.answers.specs.Answers.{Fit, fields, apart, refusal, of_file, of_reply, of_part}
use Rattle.answers.specs.Carried.{carried_out, carried_bytes}
use Rattle.answers.proofs.Laws.{fits, answered}
use Rattle.entries.specs.Entries.{CheckOf, RequestOf, ListOf, QuestionOf, TableOf, request_fields}
use Rattle.entries.specs.Entries.{request_bytes, listing_fields, listing_bytes, question_fields}
use Rattle.entries.proofs.Laws.{Ready, file_fits, ready, part_fits}

-- ---- the ways

pub data CheckEnds (s : List ℕ) (r : ℕ) : Type 0 where
  bad_file : {c p : ℕ} → (read_policy s).how ≡ Refused c p → apart r ≡ refusal c p → CheckEnds s r
  good_file : (read_policy s).how ≡ Accepted → apart r ≡ fields 0 0 0 0 → CheckEnds s r

-- a request: d is what is decided on the policy that was read
pub data RequestEnds (s : List ℕ) (x : Request) (o : List ℕ) (r : ℕ) (a : List ℕ) : Type 0 where
  bad_file : {c p : ℕ} → (read_policy s).how ≡ Refused c p → apart r ≡ refusal c p → a ≡ o → RequestEnds s x o r a
  refused : {d : Answer} → (read_policy s).how ≡ Accepted → d ≡ decide (read_policy s).policy x → (d.outcome ≡ 0 → ⊥)
      → apart r ≡ refusal d.outcome 0 → a ≡ o → RequestEnds s x o r a
  too_short_lem : {d : Answer} → (read_policy s).how ≡ Accepted → d ≡ decide (read_policy s).policy x → d.outcome ≡ 0
      → length o < length (policy_bytes d.policy) → apart r ≡ refusal 10 0 → a ≡ o → RequestEnds s x o r a
  done : {d : Answer} → (read_policy s).how ≡ Accepted → d ≡ decide (read_policy s).policy x → d.outcome ≡ 0
      → length (policy_bytes d.policy) ≤ length o → apart r ≡ fields 0 d.number 0 (length (policy_bytes d.policy))
      → a ≡ sets o 0 (policy_bytes d.policy) → RequestEnds s x o r a

pub data ListEnds (s : List ℕ) (officer : ℕ) (o : List ℕ) (r : ℕ) (a : List ℕ) : Type 0 where
  bad_file : {c p : ℕ} → (read_policy s).how ≡ Refused c p → apart r ≡ refusal c p → a ≡ o → ListEnds s officer o r a
  unknown : {p : Policy} → (read_policy s).how ≡ Accepted → p ≡ (read_policy s).policy → p.people.users.count ≤ officer
      → apart r ≡ refusal 2 0 → a ≡ o → ListEnds s officer o r a
  too_short_lem : {p : Policy} → (read_policy s).how ≡ Accepted → p ≡ (read_policy s).policy → officer < p.people.users.count
      → length o < 3 * entry_count p officer → apart r ≡ refusal 10 0 → a ≡ o → ListEnds s officer o r a
  done : {p : Policy} → (read_policy s).how ≡ Accepted → p ≡ (read_policy s).policy → officer < p.people.users.count
      → 3 * entry_count p officer ≤ length o → apart r ≡ fields 0 0 0 (entry_count p officer) → a ≡ sets o 0 (listing.entries_for p officer)
      → ListEnds s officer o r a

pub data QuestionEnds (s : List ℕ) (user permission : ℕ) (r : ℕ) : Type 0 where
  bad_file : {c p : ℕ} → (read_policy s).how ≡ Refused c p → apart r ≡ refusal c p → QuestionEnds s user permission r
  unknown : (read_policy s).how ≡ Accepted → question (read_policy s).policy user permission ≡ Err UnknownName
      → apart r ≡ refusal 2 0 → QuestionEnds s user permission r
  yes : (read_policy s).how ≡ Accepted → question (read_policy s).policy user permission ≡ Ok true → apart r ≡ fields 0 1 0 0
      → QuestionEnds s user permission r
  no : (read_policy s).how ≡ Accepted → question (read_policy s).policy user permission ≡ Ok false → apart r ≡ fields 0 0 0 0
      → QuestionEnds s user permission r

pub data TableEnds (s : List ℕ) (k : ℕ) (r : ℕ) : Type 0 where
  no_table_lem : is_table k ≡ false → apart r ≡ refusal 1 0 → TableEnds s k r
  bad_file : {c p : ℕ} → is_table k ≡ true → (read_policy s).how ≡ Refused c p → apart r ≡ refusal c p → TableEnds s k r
  done : {start len : ℕ} → part_at s k ≡ found.Found start len → apart r ≡ fields 0 0 start len → TableEnds s k r

-- ---- and there are no others

module _ (s : List ℕ) where
  how_fits : {h : How} → (read_policy s).how ≡ h → Fit (of_file h)
  how_fits q = rw q at (file_fits s (read_policy s).how refl)

  pub check_ends : {r : ℕ} → CheckOf s r → CheckEnds s r
  check_ends {r} w = by (read_policy s).how refl
    where
      by : (h : How) → (read_policy s).how ≡ h → CheckEnds s r
      by Accepted q = good_file q (answered _ (how_fits q) w.answer (ap of_file q))
      by (Refused c p) q = bad_file q (answered _ (how_fits q) w.answer (ap of_file q))

  -- ---- a request

  module _ (x : Request) (o : List ℕ) {r : ℕ} {a : List ℕ} (w : RequestOf s x o r a) where
    abbrev d : Answer
    d = decide (read_policy s).policy x

    abbrev bytes : List ℕ
    bytes = policy_bytes d.policy

    request_bad : {c p : ℕ} → (read_policy s).how ≡ Refused c p → RequestEnds s x o r a
    unfolding request_fields request_bytes
    request_bad q = bad_file q (answered _ (how_fits q) w.answer (rw q)) (w.bytes ∙ rw q)

    module _ (q : (read_policy s).how ≡ Accepted) where
      fit : Ready d
      fit = ready (read_policy s).policy (accepted_good s q) x refl

      request_refused : (d.outcome ≡ 0 → ⊥) → RequestEnds s x o r a
      unfolding request_fields request_bytes carried_out carried_bytes
      request_refused n =
          let z = ne_eqb _ _ n in
          refused q refl n (answered _ (fits fit.outcome (omega arith) (omega arith) (omega arith)) w.answer (rw (q, z))) (w.bytes ∙ rw (q, z))

      request_short : d.outcome ≡ 0 → length o < length bytes → RequestEnds s x o r a
      unfolding request_fields request_bytes carried_out carried_bytes written_outcome written_length
      request_short z l =
          too_short_lem q refl z l (answered _ (fits (omega arith) (omega arith) (omega arith) (omega arith)) w.answer (rw (q, z, short_answer d.policy o l)))
          (w.bytes ∙ rw (q, z, short_bytes d.policy o l))

      request_done : d.outcome ≡ 0 → length bytes ≤ length o → RequestEnds s x o r a
      unfolding request_fields request_bytes carried_out carried_bytes written_outcome written_length
      request_done z l =
          let m = always_enough d.policy fit.good in
          done q refl z l
          (answered _ (fits (omega arith) fit.number (omega arith) (omega (arith, m))) w.answer
          (rw (q, z, long_answer d.policy o l)))
          (w.bytes ∙ rw (q, z, long_bytes d.policy o l))

      request_decided : RequestEnds s x o r a
      request_decided =
          ⊎_elim
          (λ l. let z : d.outcome ≡ 0 = omega arith in ⊎_elim (request_short z) (request_done z) (lt_or_le (length o) (length bytes)))
          (λ l. request_refused (λ z. omega arith)) (lt_or_le d.outcome 1)

    pub request_ends : RequestEnds s x o r a
    request_ends = by (read_policy s).how refl
      where
        by : (h : How) → (read_policy s).how ≡ h → RequestEnds s x o r a
        by (Refused c p) q = request_bad q
        by Accepted q = request_decided q

  -- ---- the listing

  module _ (officer : ℕ) (o : List ℕ) {r : ℕ} {a : List ℕ} (w : ListOf s officer o r a) where
    abbrev p : Policy
    p = (read_policy s).policy

    list_bad : {c p : ℕ} → (read_policy s).how ≡ Refused c p → ListEnds s officer o r a
    unfolding listing_fields listing_bytes
    list_bad q = bad_file q (answered _ (how_fits q) w.answer (rw q)) (w.bytes ∙ rw q)

    module _ (q : (read_policy s).how ≡ Accepted) where
      list_unknown : p.people.users.count ≤ officer → ListEnds s officer o r a
      unfolding listing_fields listing_bytes listed filled listed_count
      list_unknown l =
          let z = le-leb _ _ l in
          unknown q refl l (answered _ (fits (omega arith) (omega arith) (omega arith) (omega arith)) w.answer (rw (q, z))) (w.bytes ∙ rw (q, z))

      list_short : officer < p.people.users.count → length o < 3 * entry_count p officer → ListEnds s officer o r a
      unfolding listing_fields listing_bytes listed filled listed_count
      list_short k l =
          let y = lt-leb _ _ k in
          let z = lt-ltb _ _ l in
          too_short_lem q refl k l (answered _ (fits (omega arith) (omega arith) (omega arith) (omega arith)) w.answer (rw (q, y, z)))
          (w.bytes ∙ rw (q, y, z))

      list_done : officer < p.people.users.count → 3 * entry_count p officer ≤ length o → ListEnds s officer o r a
      unfolding listing_fields listing_bytes listed filled listed_count
      list_done k l =
          let y = lt-leb _ _ k in
          let z = le-ltb _ _ l in
          done q refl k l
          (answered _ (fits (omega arith) (omega arith) (omega arith) (omega (arith, enough p officer))) w.answer
          (rw (q, y, z)))
          (w.bytes ∙ rw (q, y, z))

    pub listing_ends : ListEnds s officer o r a
    listing_ends = by (read_policy s).how refl
      where
        by : (h : How) → (read_policy s).how ≡ h → ListEnds s officer o r a
        by (Refused c p) q = list_bad q
        by Accepted q =
            ⊎_elim (λ k. ⊎_elim (list_short q k) (list_done q k) (lt_or_le (length o) (3 * entry_count p officer))) (list_unknown q)
            (lt_or_le officer p.people.users.count)

  -- ---- the question

  module _ (user permission : ℕ) {r : ℕ} (w : QuestionOf s user permission r) where
    asked : Result Bool Refusal
    asked = question (read_policy s).policy user permission

    question_bad : {c p : ℕ} → (read_policy s).how ≡ Refused c p → QuestionEnds s user permission r
    unfolding question_fields
    question_bad q = bad_file q (answered _ (how_fits q) w.answer (rw q))

    reply_fits : (y : Result Bool Refusal) → Fit (of_reply y)
    unfolding reply_value
    reply_fits (Err n) = fits (omega (arith, number_between n)) (omega arith) (omega arith) (omega arith)
    reply_fits (Ok true) = fits (omega arith) (omega arith) (omega arith) (omega arith)
    reply_fits (Ok false) = fits (omega arith) (omega arith) (omega arith) (omega arith)

    -- it is refused by one number only
    of_unknown : {n : Refusal} → asked ≡ Err n → n ≡ UnknownName
    unfolding asked question
    of_unknown {n} q = by _ _ q
      where
        by : (t b : Bool) → pick t (Err UnknownName) (Ok b) ≡ Err n → n ≡ UnknownName
        by true b q = cc
        by false b q = absurd (let z : ◌≡◌ {A = ℕ} 0 1 = cc in omega arith)

    question_good : (read_policy s).how ≡ Accepted → {y : Result Bool Refusal} → asked ≡ y → apart r ≡ of_reply y
    unfolding question_fields asked
    question_good q {y} e = answered _ (reply_fits y) w.answer (rw (q, e))

    pub question_ends : QuestionEnds s user permission r
    unfolding asked reply_value
    question_ends = by (read_policy s).how refl
      where
        of : (read_policy s).how ≡ Accepted → (y : Result Bool Refusal) → asked ≡ y → QuestionEnds s user permission r
        of q (Err n) e = let f = e ∙ ap (λ m. Err m) (of_unknown e) in unknown q f (question_good q f)
        of q (Ok true) e = yes q e (question_good q e)
        of q (Ok false) e = no q e (question_good q e)

        by : (h : How) → (read_policy s).how ≡ h → QuestionEnds s user permission r
        by (Refused c p) q = question_bad q
        by Accepted q = of q asked refl

  -- ---- the part of a table

  pub table_ends : (k : ℕ) {r : ℕ} → TableOf s k r → TableEnds s k r
  table_ends k {r} w = by (part_at s k) refl
    where
      by : (y : Part) → part_at s k ≡ y → TableEnds s k r
      by (found.Found start len) q = done q (answered _ (part_fits s k (sym q)) w.answer (ap of_part q))
      by (found.Refused c p) q =
          let e = answered _ (part_fits s k (sym q)) w.answer (ap of_part q) in
          ⊎_elim (λ u. no_table_lem u.0 (rw (u.1, u.2) at e)) (λ u. bad_file u.0 u.1 e) (part_refused s k q)
