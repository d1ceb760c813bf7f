-- What the entries refuse: the other numbers of a refusal, and that a bad file is refused by every entry as the reader refuses it.
-- Assumes nothing.
use Prim.Native.Nat.{ℕ, ◌≤◌, ◌<◌}
use mathlib.Core.Path.{◌≡◌, refl, ap}
use mathlib.Core.Bool.{true}
use mathlib.Core.List.{List}
use native.Mathlib.Omega.{arith}
use borrow.Author.Tests.{le-leb}
use lib.ListN.{length}
use Rattle.sets.proofs.Tests.{clash, and_i}
use Rattle.policy.specs.Outcome.{Answer}
use Rattle.requests.specs.declared.Request.{Request}
use Rattle.requests.proofs.Decided.{outcome_given}
use Rattle.requests.proofs.Table.{given_below}
use Rattle.reading.specs.File.{Accepted, Refused}
use Rattle.reading.specs.File.{read_policy}
use Rattle.reading.proofs.Theorems.{refused-within}
use Rattle.parts.specs.Parts.{is_table}
use Rattle.parts.proofs.Laws.{part_accepted}
use Rattle.answers.specs.Answers.{Fields, apart, refusal}
use Rattle.answers.proofs.Laws.{outcome_of}
use Rattle.entries.specs.Entries.{CheckOf, RequestOf, ListOf, QuestionOf, TableOf}
use Rattle.entries.specs.Outcomes.{of_bad_file, Refusal, BadFile}
use Rattle.entries.proofs.Ends as ends

-- a bad file's number is 20 to 27
pub bad_number : (s : List ℕ) {c p : ℕ} → (read_policy s).how ≡ Refused c p → of_bad_file c ≡ true
unfolding of_bad_file
bad_number s q = let w = refused-within s q in and_i _ _ (le-leb _ _ w.low) (le-leb _ _ w.high)

-- ---- A refusal.

-- one of a bad file, and any other
bad_refusal : (s : List ℕ) {c p : ℕ} {f : Fields} → (read_policy s).how ≡ Refused c p → f ≡ refusal c p → Refusal f
bad_refusal s q e = rw e (record { number = refl; length = refl; place = clash (bad_number s q) })

any-refusal : {c : ℕ} {f : Fields} → f ≡ refusal c 0 → Refusal f
any-refusal e = rw e (record { number = refl; length = refl; place = λ u. refl })

module _ (s : List ℕ) {o a : List ℕ} {r : ℕ} (n : (apart r).outcome ≡ 0 → ⊥) where
  pub request_refused : (x : Request) → RequestOf s x o r a → Refusal (apart r) × (a ≡ o)
  request_refused x w = by (ends.request_ends s x o w)
    where
      by : ends.RequestEnds s x o r a → Refusal (apart r) × (a ≡ o)
      by (ends.bad_file q e b) = (bad_refusal s q e, b)
      by (ends.refused q d z e b) = (any-refusal e, b)
      by (ends.too_short_lem q d z l e b) = (any-refusal e, b)
      by (ends.done q d z l e b) = absurd (n (outcome_of e))

  pub listing_refused : (officer : ℕ) → ListOf s officer o r a → Refusal (apart r) × (a ≡ o)
  listing_refused officer w = by (ends.listing_ends s officer o w)
    where
      by : ends.ListEnds s officer o r a → Refusal (apart r) × (a ≡ o)
      by (ends.bad_file q e b) = (bad_refusal s q e, b)
      by (ends.unknown q d l e b) = (any-refusal e, b)
      by (ends.too_short_lem q d k l e b) = (any-refusal e, b)
      by (ends.done q d k l e b) = absurd (n (outcome_of e))

module _ (s : List ℕ) {r : ℕ} (n : (apart r).outcome ≡ 0 → ⊥) where
  pub check_refused : CheckOf s r → Refusal (apart r)
  check_refused w = by (ends.check_ends s w)
    where
      by : ends.CheckEnds s r → Refusal (apart r)
      by (ends.bad_file q e) = bad_refusal s q e
      by (ends.good_file q e) = absurd (n (outcome_of e))

  pub question-refused : (user permission : ℕ) → QuestionOf s user permission r → Refusal (apart r)
  question-refused user permission w = by (ends.question_ends s user permission w)
    where
      by : ends.QuestionEnds s user permission r → Refusal (apart r)
      by (ends.bad_file q e) = bad_refusal s q e
      by (ends.unknown q d e) = any-refusal e
      by (ends.yes q d e) = absurd (n (outcome_of e))
      by (ends.no q d e) = absurd (n (outcome_of e))

  pub table-refused : (k : ℕ) → TableOf s k r → Refusal (apart r)
  table-refused k w = by (ends.table_ends s k w)
    where
      by : ends.TableEnds s k r → Refusal (apart r)
      by (ends.no_table_lem q e) = any-refusal e
      by (ends.bad_file k q e) = bad_refusal s q e
      by (ends.done q e) = absurd (n (outcome_of e))

-- ---- A bad file: each entry answers its refusal, and answers 20 to 27 for nothing else.

-- a file that was accepted was not refused
pub not_bad : {A : Type 0} (s : List ℕ) {c p : ℕ} → (read_policy s).how ≡ Accepted → (read_policy s).how ≡ Refused c p → A
not_bad s q t = absurd (let z : ◌≡◌ {A = ℕ} 0 1 = cc in omega arith)

-- an entry ends with the file's own refusal, or of a policy file with another outcome
data Ending (s : List ℕ) (f : Fields) : Type 0 where
  bad : {c p : ℕ} → (read_policy s).how ≡ Refused c p → f ≡ refusal c p → Ending s f
  good : (read_policy s).how ≡ Accepted → f.outcome < 20 → Ending s f

bad_file : (s : List ℕ) {r : ℕ} → Ending s (apart r) → BadFile s r
bad_file s {r} w = record { then = λ c p q. then w q; only = λ l. only w l }
  where
    then : Ending s (apart r) → {c p : ℕ} → (read_policy s).how ≡ Refused c p → apart r ≡ refusal c p
    then (bad {c = d} {p = k} t e) {c} {p} q =
        let y : ◌≡◌ {A = ℕ} d c = cc in
        let z : ◌≡◌ {A = ℕ} k p = cc in
        rw (y, z) at e
    then (good t l) q = not_bad s t q

    only : Ending s (apart r) → 20 ≤ (apart r).outcome → (read_policy s).how ≡ Refused (apart r).outcome (apart r).place
    only (bad t e) l = rw e t
    only (good t m) l = absurd (omega arith)

module _ (s : List ℕ) {r : ℕ} where
  pub check_bad : CheckOf s r → BadFile s r
  check_bad w = bad_file s (by (ends.check_ends s w))
    where
      by : ends.CheckEnds s r → Ending s (apart r)
      by (ends.bad_file q e) = bad q e
      by (ends.good_file q e) = good q (omega (arith, outcome_of e))

  pub request_bad : {x : Request} {o a : List ℕ} → RequestOf s x o r a → BadFile s r
  request_bad {x} {o} {a} w = bad_file s (by (ends.request_ends s x o w))
    where
      by : ends.RequestEnds s x o r a → Ending s (apart r)
      by (ends.bad_file q e b) = bad q e
      by (ends.refused q d n e b) =
          good q (omega (arith, outcome_of e, ap (λ (h : Answer). h.outcome) d, given_below _ _ (outcome_given (read_policy s).policy x)))
      by (ends.too_short_lem q d y l e b) = good q (omega (arith, outcome_of e))
      by (ends.done q d y l e b) = good q (omega (arith, outcome_of e))

  pub listing_bad : {officer : ℕ} {o a : List ℕ} → ListOf s officer o r a → BadFile s r
  listing_bad {officer} {o} {a} w = bad_file s (by (ends.listing_ends s officer o w))
    where
      by : ends.ListEnds s officer o r a → Ending s (apart r)
      by (ends.bad_file q e b) = bad q e
      by (ends.unknown q d l e b) = good q (omega (arith, outcome_of e))
      by (ends.too_short_lem q d k l e b) = good q (omega (arith, outcome_of e))
      by (ends.done q d k l e b) = good q (omega (arith, outcome_of e))

  pub question_bad : {user permission : ℕ} → QuestionOf s user permission r → BadFile s r
  question_bad {user} {permission} w = bad_file s (by (ends.question_ends s user permission w))
    where
      by : ends.QuestionEnds s user permission r → Ending s (apart r)
      by (ends.bad_file q e) = bad q e
      by (ends.unknown q d e) = good q (omega (arith, outcome_of e))
      by (ends.yes q d e) = good q (omega (arith, outcome_of e))
      by (ends.no q d e) = good q (omega (arith, outcome_of e))

  -- the table's own 1 comes first
  pub table_bad : {k : ℕ} → is_table k ≡ true → TableOf s k r → BadFile s r
  table_bad {k} i w = bad_file s (by (ends.table_ends s k w))
    where
      by : ends.TableEnds s k r → Ending s (apart r)
      by (ends.no_table_lem t e) = clash i t
      by (ends.bad_file u q e) = bad q e
      by (ends.done q e) = good (part_accepted s k q) (omega (arith, outcome_of e))
