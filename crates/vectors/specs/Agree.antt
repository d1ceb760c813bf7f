-- That an entry answers what a vector expects.
use Rattle.std.specs.Prelude.{◌≡◌, ℕ, ◌+◌, ◌*◌, List, take, replicate}
use Rattle.number.specs.Number.{part}
use Rattle.requests.specs.declared.Request.{Request}
use Rattle.reading.specs.File.{Accepted}
use Rattle.reading.specs.File.{read_policy}
use Rattle.parts.specs.Parts.{part_bytes}
use Rattle.layout.specs.Layout.{policy_bytes}
use Rattle.answers.specs.Answers.{apart}
use Rattle.entries.specs.Entries.{CheckOf, RequestOf, ListOf, TableOf}

-- a file: the answer, and an accepted file is written back as it was
pub record FileIs (s : List ℕ) (answer : ℕ) : Type 0 where
  pub answered : CheckOf s answer
  pub again : (read_policy s).how ≡ Accepted → policy_bytes (read_policy s).policy ≡ s

-- a request with a buffer of zeros that is always enough: the answer, and the new file at the buffer's start; a refusal has none
pub record RequestIs (s : List ℕ) (q : Request) (answer : ℕ) (file : List ℕ) : Type 0 where
  pub after : List ℕ
  pub answered : RequestOf s q (replicate 10375 0) answer after
  pub bytes : take (apart answer).length after ≡ file

-- a listing likewise: three bytes for each entry
pub record ListingIs (s : List ℕ) (officer answer : ℕ) (entries : List ℕ) : Type 0 where
  pub after : List ℕ
  pub answered : ListOf s officer (replicate 37056 0) answer after
  pub bytes : take (3 * (apart answer).length) after ≡ entries

-- a table: the answer, and the part that is handed out is the input's, from the answer's place on and as long as it says; a refusal's is empty
pub record TableIs (s : List ℕ) (table answer : ℕ) : Type 0 where
  pub answered : TableOf s table answer
  pub bytes : part_bytes s table ≡ part s (apart answer).place ((apart answer).place + (apart answer).length)
