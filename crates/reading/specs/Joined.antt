-- What each part of the reader answers. Of a refused answer it is said how the reading ended and no more: nobody looks at what was filled until then,
-- so that nothing has to be emptied on the way: a refused read's policy with nothing in it is made where a policy is asked for.
use Rattle.std.specs.Prelude.{ℕ, ◌≡◌, List, eqb, ltb, length, ⊤, Result, Ok, Err}
use Rattle.std.specs.Borrow.{Bor}
use Rattle.sets.specs.Tests.{pick}
use Rattle.policy.specs.declared.Orders.{Orders}
use Rattle.policy.specs.declared.Policy.{Policy}
use Rattle.policy.specs.declared.Ranges.{Ranges}
use Rattle.number.specs.declared.NumberError.{NumberError}
use Rattle.number.specs.Number.{number_of, place_of}
use Rattle.number.specs.Run.{Step, go, stop}
use Rattle.faults.specs.Faults.{fault}
use Rattle.reader.specs.declared.Reader.{Reader}
use Rattle.reading.specs.declared.File.{File}
use Rattle.reading.specs.declared.FileError.{FileError}
use Rattle.reading.specs.File.{Front, Rest, file, How, Accepted, Refused, error_number, error_place}

-- what stands in a policy before its tables
abbrev pub front_of : Policy → Front
front_of p = record { orders = p.orders; people = p.people; permissions = p.permissions }

-- the sections before the tables: they stand in the policy, and the reader past them on the same bytes; or why they were refused
abbrev pub FrontGiven : Step Front → Bor (List ℕ) → Result Reader NumberError → Policy → Type 0
FrontGiven w bytes (Ok r) p = (w ≡ go r.at (front_of p)) × (r.bytes ≡ bytes)
FrontGiven w bytes (Err e) p = w ≡ stop (number_of e) (place_of e)

-- the tables: they stand in the file beside what stood there before them, with their places; or why they were refused
abbrev pub RestGiven : Step Rest → Front → Result ℕ NumberError → File → Type 0
RestGiven w f (Ok end) x = (r : Rest) × (w ≡ go end r) × (x ≡ file f r)
RestGiven w f (Err e) x = w ≡ stop (number_of e) (place_of e)

-- once all is read up to `end`: "27 bytes left over (place: the first)"; else 23 to 26
unfoldable pub judgement : List ℕ → ℕ → Orders → Ranges → How
judgement s end orders modify =
    pick (ltb end (length s)) (Refused 27 end) (pick (eqb (fault orders modify) 0) Accepted (Refused (fault orders modify) 0))

-- the whole file: it is there, or why it was refused
abbrev pub FileGiven : Step File → Result ⊤ FileError → File → Type 0
FileGiven w (Ok u) x = (e : ℕ) × (w ≡ go e x)
FileGiven w (Err e) x = w ≡ stop (error_number e) (error_place e)
