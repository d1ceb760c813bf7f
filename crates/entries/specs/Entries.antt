-- What each entry answers, and what it leaves in the lent buffer, for any bytes and numbers.
-- Document 01: "Read, request, write: the first refusal is returned, with length 0."
use Rattle.std.specs.Prelude.{ℕ, ◌≡◌, List, length}
use Rattle.policy.specs.Question.{question}
use Rattle.requests.specs.declared.Request.{Request}
use Rattle.requests.specs.Requests.{decide}
use Rattle.reading.specs.File.{How}
use Rattle.reading.specs.File.{Accepted, Refused}
use Rattle.reading.specs.File.{read_policy}
use Rattle.parts.specs.Parts.{part_at}
use Rattle.listing.specs.Listing.{listed, filled}
use Rattle.answers.specs.Answers.{Fields, packed, refusal, of_file, of_listed, of_reply, of_part}
use Rattle.answers.specs.Carried.{carried_out, carried_bytes}

-- a bad file's own refusal, and else what its policy gives
abbrev pub or_bad : How → Fields → Fields
or_bad Accepted f = f
or_bad (Refused c p) f = refusal c p

-- a bad file leaves the buffer as it was
abbrev pub or_stays : How → List ℕ → List ℕ → List ℕ
or_stays Accepted after before = after
or_stays (Refused c p) after before = before

-- ---- is this a policy file?

pub record CheckOf (policy : List ℕ) (r : ℕ) : Type 0 where
  pub answer : r ≡ packed (of_file (read_policy policy).how)

-- ---- a request: "Read, request, write"

unfoldable pub request_fields : List ℕ → Request → List ℕ → Fields
request_fields policy q before = or_bad (read_policy policy).how (carried_out (decide (read_policy policy).policy q) before)

unfoldable pub request_bytes : List ℕ → Request → List ℕ → List ℕ
request_bytes policy q before = or_stays (read_policy policy).how (carried_bytes (decide (read_policy policy).policy q) before) before

pub record RequestOf (policy : List ℕ) (q : Request) (before : List ℕ) (r : ℕ) (after : List ℕ) : Type 0 where
  pub answer : r ≡ packed (request_fields policy q before)
  pub bytes : after ≡ request_bytes policy q before

-- ---- the listing of an officer

unfoldable pub listing_fields : List ℕ → ℕ → List ℕ → Fields
listing_fields policy officer before =
    or_bad (read_policy policy).how (of_listed (listed (read_policy policy).policy officer (length before)))

unfoldable pub listing_bytes : List ℕ → ℕ → List ℕ → List ℕ
listing_bytes policy officer before = or_stays (read_policy policy).how (filled (read_policy policy).policy officer before) before

pub record ListOf (policy : List ℕ) (officer : ℕ) (before : List ℕ) (r : ℕ) (after : List ℕ) : Type 0 where
  pub answer : r ≡ packed (listing_fields policy officer before)
  pub bytes : after ≡ listing_bytes policy officer before

-- ---- the permission question

unfoldable pub question_fields : List ℕ → ℕ → ℕ → Fields
question_fields policy user permission = or_bad (read_policy policy).how (of_reply (question (read_policy policy).policy user permission))

pub record QuestionOf (policy : List ℕ) (user permission : ℕ) (r : ℕ) : Type 0 where
  pub answer : r ≡ packed (question_fields policy user permission)

-- ---- the part of one table: its 1 comes before a bad file's refusal

pub record TableOf (policy : List ℕ) (table : ℕ) (r : ℕ) : Type 0 where
  pub answer : r ≡ packed (of_part (part_at policy table))
