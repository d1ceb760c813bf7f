-- Worked files, by computation.
-- Assumes nothing.
use Prim.Native.Nat.{ℕ}
use mathlib.Core.Path.{◌≡◌, refl}
use mathlib.Core.List.{List, [], ◌∷◌, ◌++◌, map}
use Rattle.reading.specs.File as how
use Rattle.reading.specs.File.{Accepted}
use Rattle.reading.proofs.Opened.{reading_opened}
use Rattle.reading.specs.File.{read_policy}
use Rattle.parts.specs.Parts.{Part}
use Rattle.parts.specs.Parts.{Found, Refused}
use Rattle.parts.specs.Parts.{is_table, start_of, end_of, part_at}

-- document 01's file of 20 bytes, to its last number
abbrev listed : List ℕ
listed = 1 ∷ 15 ∷ 0 ∷ 1 ∷ 1 ∷ 7 ∷ 1 ∷ 0 ∷ 1 ∷ 0 ∷ 1 ∷ 0 ∷ 0 ∷ 0 ∷ 0 ∷ 0 ∷ 1 ∷ 0 ∷ 0 ∷ []

-- a file of given roles with their juniors and can-modify rows; it has one administrative role, and no users, permissions or other rows
abbrev file_of : List ℕ → List ℕ → List ℕ
file_of roles rows = (1 ∷ roles) ++ (1 ∷ 0 ∷ 0 ∷ 0 ∷ 0 ∷ 0 ∷ 0 ∷ 0 ∷ rows)

-- an input, and how its reading ends
abbrev readings : List (List ℕ × how.How)
readings =
    (listed ++ (3 ∷ []), Accepted)
    ∷ ([], how.Refused 20 0)
    ∷ (listed, how.Refused 20 19)
    ∷ (2 ∷ [], how.Refused 22 0)
    ∷ (1 ∷ 3 ∷ 0 ∷ 0x81 ∷ 0 ∷ [], how.Refused 21 3)
    ∷ (1 ∷ 3 ∷ 0 ∷ 4 ∷ [], how.Refused 22 3)
    ∷ (listed ++ (4 ∷ []), how.Refused 22 19)
    ∷ (listed ++ (3 ∷ 0 ∷ []), how.Refused 27 20)
    ∷ (file_of (3 ∷ 1 ∷ 0 ∷ []) (0 ∷ []), how.Refused 23 0)
    ∷ (file_of (3 ∷ 0 ∷ 0 ∷ []) (1 ∷ 0 ∷ 0 ∷ 1 ∷ []), how.Refused 24 0)
    ∷ (file_of (15 ∷ 0 ∷ 1 ∷ 3 ∷ 3 ∷ []) (1 ∷ 0 ∷ 0 ∷ 2 ∷ []), how.Refused 25 0)
    ∷ (file_of (31 ∷ 0 ∷ 1 ∷ 3 ∷ 7 ∷ 15 ∷ []) (2 ∷ 0 ∷ 0 ∷ 3 ∷ 0 ∷ 1 ∷ 4 ∷ []), how.Refused 26 0)
    ∷ []

-- a table's number, and where it stands in document 01's file
abbrev finds : List (ℕ × Part)
finds = (0, Refused 1 0) ∷ (1, Found 12 1) ∷ (4, Found 15 1) ∷ (5, Found 16 4) ∷ (6, Refused 1 0) ∷ []

read : map (λ c. (read_policy c.0).how) readings ≡ map (λ c. c.1) readings
unfolding reading_opened
read = refl

found : map (λ c. part_at (listed ++ (3 ∷ [])) c.0) finds ≡ map (λ c. c.1) finds
unfolding part_at is_table start_of end_of reading_opened
found = refl
