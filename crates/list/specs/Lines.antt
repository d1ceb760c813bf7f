-- Document 01: "writes for each user in turn one line an entry, ended by LF: user, kind, a, b."
use Rattle.std.specs.Prelude.{ℕ, ◌+◌, ◌/◌, ◌%◌, List, [], ◌∷◌, ◌++◌, ltb}
use Rattle.sets.specs.Tests.{pick}

-- a digit, as text
abbrev pub digit : ℕ → ℕ
digit d = 48 + d

-- a number below 256, as text: as many digits as it has
unfoldable pub decimal : ℕ → List ℕ
decimal x =
    pick (ltb x 10) (digit x ∷ [])
    (pick (ltb x 100) (digit (x / 10) ∷ digit (x % 10) ∷ [])
    (digit (x / 100) ∷ digit (x / 10 % 10) ∷ digit (x % 10) ∷ []))

-- a number and the byte that ends it
unfoldable pub field : ℕ → ℕ → List ℕ
field x end = decimal x ++ (end ∷ [])

-- fields separated by one space, the last ended by LF
unfoldable pub line : ℕ → ℕ → ℕ → ℕ → List ℕ
line user kind a b = field user 32 ++ (field kind 32 ++ (field a 32 ++ field b 10))
