-- Demand 2, of the other entries: what an accepted call answers, and when each of their numbers is given. Assumes nothing.
use Prim.Native.Nat.{ℕ, ◌+◌, ◌*◌, ◌≤◌, ◌<◌}
use mathlib.Core.Path.{◌≡◌, sym, ap, ◌∙◌}
use mathlib.Core.Bool.{false}
use mathlib.Core.List.{List}
use native.Mathlib.Omega.{arith}
use lib.ListN.{length, get_or}
use Rattle.sets.proofs.Tests.{clash}
use Rattle.policy.specs.declared.Policy.{Policy}
use Rattle.policy.specs.Question.{question, reply_value}
use Rattle.number.specs.Number.{part}
use Rattle.number.proofs.Stores.{sets_after}
use Rattle.reading.specs.File.{Accepted}
use Rattle.reading.specs.File.{read_policy}
use Rattle.reading.proofs.Theorems.{refused-within}
use Rattle.parts.specs.Parts.{is_table, part_bytes}
use Rattle.parts.proofs.Laws.{part_found, part_accepted}
use Rattle.layout.specs.Layout.{table_bytes}
use Rattle.trips.proofs.WrittenRead.{part_of_read}
use Rattle.listing.specs.Listing.{entry_count, entries_for}
use Rattle.listing.proofs.Promised.{enough, bytes_long}
use Rattle.answers.specs.Answers.{fields, apart, of_reply}
use Rattle.answers.proofs.Laws.{outcome_of, place_of, length_of}
use Rattle.entries.specs.Entries.{CheckOf, ListOf, QuestionOf, TableOf}
use Rattle.entries.proofs.Ends as ends
use Rattle.entries.proofs.Refused.{not_bad}
use Rattle.entries.proofs.Promised.{listing_done}

-- ---- the check

-- accepted: all four are 0
pub check_accepted : {s : List ℕ} {r : ℕ} → CheckOf s r → (apart r).outcome ≡ 0 → ((read_policy s).how ≡ Accepted) × (apart r ≡ fields 0 0 0 0)
check_accepted {s} {r} w z = by (ends.check_ends s w)
  where
    by : ends.CheckEnds s r → ((read_policy s).how ≡ Accepted) × (apart r ≡ fields 0 0 0 0)
    by (ends.bad_file q e) = absurd (let l = (refused-within s q).low in omega (arith, outcome_of e, z))
    by (ends.good_file q e) = (q, e)

pub check_accepts : {s : List ℕ} {r : ℕ} → CheckOf s r → (read_policy s).how ≡ Accepted → apart r ≡ fields 0 0 0 0
check_accepts {s} {r} w q = by (ends.check_ends s w)
  where
    by : ends.CheckEnds s r → apart r ≡ fields 0 0 0 0
    by (ends.bad_file t e) = not_bad s q t
    by (ends.good_file t e) = e

-- ---- the listing and the question, of a policy file

module _ (s : List ℕ) (ok : (read_policy s).how ≡ Accepted) where
  module _ {officer : ℕ} {o a : List ℕ} {r : ℕ} (w : ListOf s officer o r a) where
    abbrev users : ℕ
    users = (read_policy s).policy.people.users.count

    abbrev entries : ℕ
    entries = entry_count (read_policy s).policy officer

    users_are : {p : Policy} → p ≡ (read_policy s).policy → p.people.users.count ≡ users
    users_are e = ap (λ (q : Policy). q.people.users.count) e

    entries_are : {p : Policy} → p ≡ (read_policy s).policy → entry_count p officer ≡ entries
    entries_are e = ap (λ (q : Policy). entry_count q officer) e

    -- accepted: number and place are 0, the length is the number of entries, and later bytes stay
    pub listing_accepted : (apart r).outcome ≡ 0 → apart r ≡ fields 0 0 0 entries
    listing_accepted z = (listing_done s officer o w z).answer

    pub listing_later : (apart r).outcome ≡ 0 → (k : ℕ) → 3 * (apart r).length ≤ k → get_or a k 0 ≡ get_or o k 0
    listing_later z k h =
        let d = listing_done s officer o w z in
        let m = bytes_long (read_policy s).policy officer in
        ap (λ (l : List ℕ). get_or l k 0) d.bytes
        ∙ sets_after (entries_for (read_policy s).policy officer) o 0 k (omega (arith, m, length_of d.answer, h))

    -- 2 exactly for an unknown officer
    pub listing_unknown : ((apart r).outcome ≡ 2 → users ≤ officer) × (users ≤ officer → (apart r).outcome ≡ 2)
    listing_unknown = (only (ends.listing_ends s officer o w), then (ends.listing_ends s officer o w))
      where
        only : ends.ListEnds s officer o r a → (apart r).outcome ≡ 2 → users ≤ officer
        only (ends.bad_file t e b) z = not_bad s ok t
        only (ends.unknown t d l e b) z = omega (arith, users_are d, l)
        only (ends.too_short_lem t d k l e b) z = absurd (omega (arith, outcome_of e, z))
        only (ends.done t d k l e b) z = absurd (omega (arith, outcome_of e, z))

        then : ends.ListEnds s officer o r a → users ≤ officer → (apart r).outcome ≡ 2
        then (ends.bad_file t e b) m = not_bad s ok t
        then (ends.unknown t d l e b) m = outcome_of e
        then (ends.too_short_lem t d k l e b) m = absurd (omega (arith, users_are d, k, m))
        then (ends.done t d k l e b) m = absurd (omega (arith, users_are d, k, m))

    -- "else with 10 exactly if 3 times the count exceeds the buffer"
    pub listing_short : ((apart r).outcome ≡ 10 → (officer < users) × (length o < 3 * entries))
        × (officer < users → length o < 3 * entries → (apart r).outcome ≡ 10)
    listing_short = (only (ends.listing_ends s officer o w), then (ends.listing_ends s officer o w))
      where
        only : ends.ListEnds s officer o r a → (apart r).outcome ≡ 10 → (officer < users) × (length o < 3 * entries)
        only (ends.bad_file t e b) z = not_bad s ok t
        only (ends.unknown t d l e b) z = absurd (omega (arith, outcome_of e, z))
        only (ends.too_short_lem t d k l e b) z = (omega (arith, users_are d, k), omega (arith, entries_are d, l))
        only (ends.done t d k l e b) z = absurd (omega (arith, outcome_of e, z))

        then : ends.ListEnds s officer o r a → officer < users → length o < 3 * entries → (apart r).outcome ≡ 10
        then (ends.bad_file t e b) m n = not_bad s ok t
        then (ends.unknown t d l e b) m n = absurd (omega (arith, users_are d, l, m))
        then (ends.too_short_lem t d k l e b) m n = outcome_of e
        then (ends.done t d k l e b) m n = absurd (omega (arith, entries_are d, l, n))

    -- "37,056 bytes are always enough."
    pub listing_enough : officer < users → 37056 ≤ length o → (apart r).outcome ≡ 0
    listing_enough m n = by (ends.listing_ends s officer o w)
      where
        by : ends.ListEnds s officer o r a → (apart r).outcome ≡ 0
        by (ends.bad_file t e b) = not_bad s ok t
        by (ends.unknown t d l e b) = absurd (omega (arith, users_are d, l, m))
        by (ends.too_short_lem {p = p} t d k l e b) = absurd (omega (arith, enough p officer, l, n))
        by (ends.done t d k l e b) = outcome_of e

  -- the four numbers are the reply's outcome and value, place 0 and length 0
  pub question-answer : {user permission r : ℕ} → QuestionOf s user permission r
      → apart r ≡ of_reply (question (read_policy s).policy user permission)
  unfolding reply_value
  question-answer {user} {permission} {r} w = by (ends.question_ends s user permission w)
    where
      by : ends.QuestionEnds s user permission r → apart r ≡ of_reply (question (read_policy s).policy user permission)
      by (ends.bad_file t e) = not_bad s ok t
      by (ends.unknown t d e) = e ∙ sym (ap of_reply d)
      by (ends.yes t d e) = e ∙ sym (ap of_reply d)
      by (ends.no t d e) = e ∙ sym (ap of_reply d)

-- a yes or no has place and length 0
pub question-accepted : {s : List ℕ} {user permission r : ℕ} → QuestionOf s user permission r → (apart r).outcome ≡ 0
    → ((apart r).place ≡ 0) × ((apart r).length ≡ 0)
question-accepted {s} {user} {permission} {r} w z = by (ends.question_ends s user permission w)
  where
    by : ends.QuestionEnds s user permission r → ((apart r).place ≡ 0) × ((apart r).length ≡ 0)
    by (ends.bad_file q e) = absurd (let l = (refused-within s q).low in omega (arith, outcome_of e, z))
    by (ends.unknown q d e) = absurd (omega (arith, outcome_of e, z))
    by (ends.yes q d e) = (place_of e, length_of e)
    by (ends.no q d e) = (place_of e, length_of e)

-- ---- the part of a table

-- "a table number not 1 to 5 gives 1"
pub table-unknown : {s : List ℕ} {k r : ℕ} → TableOf s k r
    → ((apart r).outcome ≡ 1 → is_table k ≡ false) × (is_table k ≡ false → (apart r).outcome ≡ 1)
table-unknown {s} {k} {r} w = (only (ends.table_ends s k w), then (ends.table_ends s k w))
  where
    only : ends.TableEnds s k r → (apart r).outcome ≡ 1 → is_table k ≡ false
    only (ends.no_table_lem q e) z = q
    only (ends.bad_file t q e) z = absurd (let l = (refused-within s q).low in omega (arith, outcome_of e, z))
    only (ends.done q e) z = absurd (omega (arith, outcome_of e, z))

    then : ends.TableEnds s k r → is_table k ≡ false → (apart r).outcome ≡ 1
    then (ends.no_table_lem q e) z = outcome_of e
    then (ends.bad_file t q e) z = clash t z
    then (ends.done q e) z = clash (part_found s k q).0 z

-- accepted: "that part of the caller's own file, from its count to its last row" is the table's bytes of the policy that is read; s is a list of bytes
pub table_part : {s : List ℕ} {k r : ℕ} → ((i : ℕ) → get_or s i 0 < 256) → TableOf s k r → (apart r).outcome ≡ 0
    → part s (apart r).place ((apart r).place + (apart r).length) ≡ table_bytes (read_policy s).policy k
unfolding part_bytes
table_part {s} {k} {r} small w z = by (ends.table_ends s k w)
  where
    by : ends.TableEnds s k r → part s (apart r).place ((apart r).place + (apart r).length) ≡ table_bytes (read_policy s).policy k
    by (ends.no_table_lem q e) = absurd (omega (arith, outcome_of e, z))
    by (ends.bad_file t q e) = absurd (let l = (refused-within s q).low in omega (arith, outcome_of e, z))
    by (ends.done {start} {len} q e) =
        let m : part_bytes s k ≡ part s start (start + len) = rw q in
        rw e (sym m ∙ part_of_read s small (part_accepted s k q) k (part_found s k q).0)
