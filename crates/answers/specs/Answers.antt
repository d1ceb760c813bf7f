-- What an entry answers: one number that holds four, so that a refusal touches no lent memory at all.
use Rattle.std.specs.Prelude.{ℕ, Bool, Result, Ok, Err, ◌+◌, ◌*◌, ◌/◌, ◌%◌, ◌<◌}
use Rattle.policy.specs.declared.Refusal.{Refusal}
use Rattle.policy.specs.Outcome.{outcome_of}
use Rattle.policy.specs.Question.{reply_value}
use Rattle.reading.specs.File.{How}
use Rattle.reading.specs.File as how
use Rattle.parts.specs.Parts.{Part}
use Rattle.parts.specs.Parts as found
use Rattle.writing.specs.Writing.{written_outcome, written_length}
use Rattle.listing.specs.Listing.{listed_count}

pub record Fields : Type 0 where
  pub outcome : ℕ
  pub number : ℕ
  pub place : ℕ
  pub length : ℕ

abbrev pub fields : ℕ → ℕ → ℕ → ℕ → Fields
fields o n p l = record { outcome = o; number = n; place = p; length = l }

-- outcome in bits 0 to 7, number in 8 to 15, place in 16 to 31, length in 32 to 63
unfoldable pub packed : Fields → ℕ
packed f = f.outcome + f.number * 256 + f.place * 65536 + f.length * 4294967296

-- the four taken out again, as the header does it
unfoldable pub apart : ℕ → Fields
apart r = fields (r % 256) (r / 256 % 256) (r / 65536 % 65536) (r / 4294967296)

-- each fits its bits
pub record Fit (f : Fields) : Type 0 where
  pub outcome : f.outcome < 256
  pub number : f.number < 256
  pub place : f.place < 65536
  pub length : f.length < 4294967296

-- "the first refusal is returned, with length 0", number 0 and, for a bad file, its place
abbrev pub refusal : ℕ → ℕ → Fields
refusal c p = fields c 0 p 0

-- ---- document 01's numbers and values for each answer of the layers below

abbrev pub of_file : How → Fields
of_file how.Accepted = fields 0 0 0 0
of_file (how.Refused c p) = refusal c p

-- the number beside acceptance: none where nothing is written
abbrev pub beside : ℕ → Result ℕ Refusal → ℕ
beside n (Ok l) = n
beside n (Err r) = 0

abbrev pub of_written : ℕ → Result ℕ Refusal → Fields
of_written n w = fields (written_outcome w) (beside n w) 0 (written_length w)

abbrev pub of_listed : Result ℕ Refusal → Fields
of_listed l = fields (outcome_of l) 0 0 (listed_count l)

abbrev pub of_reply : Result Bool Refusal → Fields
of_reply y = fields (outcome_of y) (reply_value y) 0 0

abbrev pub of_part : Part → Fields
of_part (found.Found start len) = fields 0 0 start len
of_part (found.Refused c p) = refusal c p
