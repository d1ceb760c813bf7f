-- A reader. Document 01, "The policy file".
use Rattle.std.specs.Prelude.{ℕ, ◌≡◌, List, Result, Ok, Err, IfOk}
use Rattle.std.specs.Borrow.{Bor}
use Rattle.number.specs.declared.NumberError.{NumberError}
use Rattle.reader.specs.declared.Reader.{Reader}

-- "The reader stands on the caller's bytes and keeps its own place in them."
abbrev pub standing : Bor (List ℕ) → ℕ → Reader
standing bytes at = record { bytes = bytes; at = at }

-- what was read, with the place of the reader past it; or why nothing was
abbrev pub up_to : {A : Type 0} → Result (A × Reader) NumberError → Result (A × ℕ) NumberError
up_to (Ok r) = Ok (r.0, r.1.at)
up_to (Err e) = Err e

-- the reader past what was read stands on the same bytes
abbrev pub StaysOn : {A : Type 0} → Bor (List ℕ) → Result (A × Reader) NumberError → Type 0
StaysOn bytes r = IfOk r (λ x. x.1.bytes ≡ bytes)
