-- The part of one table. Document 01, "The policy file":
-- "A caller may ask for one table's bytes and is handed that part of the caller's own file, from its count to its last row;
-- a table number not 1 to 5 gives 1, then a bad file its own refusal, both with an empty part."
use Rattle.std.specs.Prelude.{ℕ, ◌+◌, ◌-◌, ◌≡◌, Bool, true, false, List, [], eqb, leb, Result, Ok, Err, MatchResult}
use Rattle.sets.specs.Tests.{◌and◌, pick}
use Rattle.number.specs.Number.{part}
use Rattle.number.specs.Run.{Step, go, stop}
use Rattle.reading.specs.declared.Places.{Places}
use Rattle.reading.specs.declared.File.{File}
use Rattle.reading.specs.File.{file_at, error_number, error_place}
use Rattle.parts.specs.declared.TableName.{TableName}
use Rattle.parts.specs.declared.TableName.TheVariants.{Assign, Revoke, Assignp, Revokep, Modify}
use Rattle.parts.specs.declared.PartError.{PartError}
use Rattle.parts.specs.declared.PartError.TheVariants as error

-- where a table stands: the place of its first byte and how many bytes it has; or the refusal's number and its place
pub data Part : Type 0 where
  Found : ℕ → ℕ → Part
  Refused : ℕ → ℕ → Part

-- "can-assign, can-revoke, the same two for permissions, can-modify"
abbrev pub table_number : TableName → ℕ
table_number Assign = 1
table_number Revoke = 2
table_number Assignp = 3
table_number Revokep = 4
table_number Modify = 5

-- "a table number not 1 to 5"
unfoldable pub is_table : ℕ → Bool
is_table k = leb 1 k and leb k 5

-- where table k starts: "can-assign, can-revoke, the same two for permissions, can-modify"
unfoldable pub start_of : Places → ℕ → ℕ
start_of p k =
    pick (eqb k 1) p.assign (pick (eqb k 2) p.revoke (pick (eqb k 3) p.assignp (pick (eqb k 4) p.revokep p.modify)))

-- and where it ends, which is where the next one starts
unfoldable pub end_of : Places → ℕ → ℕ
end_of p k = pick (eqb k 1) p.revoke (pick (eqb k 2) p.assignp (pick (eqb k 3) p.revokep (pick (eqb k 4) p.modify p.end)))

-- "then a bad file its own refusal"
abbrev pub part_of : ℕ → Step File → Part
part_of k (go e f) = Found (start_of f.places k) (end_of f.places k - start_of f.places k)
part_of k (stop c p) = Refused c p

unfoldable pub part_at : List ℕ → ℕ → Part
part_at s k = pick (is_table k) (part_of k (file_at s)) (Refused 1 0)

-- "that part of the caller's own file", and "an empty part"
abbrev pub bytes_of : List ℕ → Part → List ℕ
bytes_of s (Found start len) = part s start (start + len)
bytes_of s (Refused c p) = []

unfoldable pub part_bytes : List ℕ → ℕ → List ℕ
part_bytes s k = bytes_of s (part_at s k)

-- ---- what the code answers

-- a number names a table, or it is "a table number not 1 to 5"
abbrev pub Names : ℕ → Result TableName PartError → Type 0
Names number r = MatchResult r (λ table. table_number table ≡ number) (λ e. (e ≡ error.NoTable) × (is_table number ≡ false))

-- "1", or "a bad file its own refusal"
abbrev pub as_part : Result (ℕ × ℕ) PartError → Part
as_part (Ok r) = Found r.0 r.1
as_part (Err error.NoTable) = Refused 1 0
as_part (Err (error.File e)) = Refused (error_number e) (error_place e)
