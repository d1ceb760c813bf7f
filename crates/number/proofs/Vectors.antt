-- Worked numbers, by computation.
-- Assumes nothing.
use Prim.Native.Nat.{ℕ, ◌-◌, ◌^◌}
use mathlib.Core.Path.{◌≡◌, refl}
use mathlib.Core.List.{List, [], ◌∷◌, ◌++◌, map}
use lib.ListN.{replicate}
use Rattle.sets.specs.Tests.{◌and◌, ◌or◌}
use Rattle.sets.specs.Sets.{least}
use Rattle.number.specs.Number.{last_of, value_of, is_long, is_over, ends_with, num_at, groups_of, num_bytes}
use Rattle.number.specs.Number.{Num}
use Rattle.number.specs.Number.{Value, Refused}

-- nine bytes that are continued, and a tenth
abbrev tenth : ℕ → List ℕ
tenth b = replicate 9 255 ++ (b ∷ [])

-- the input, a place in it, and what stands there
abbrev readings : List (List ℕ × ℕ × Num)
readings =
    (0 ∷ [], 0, Value 0 1)
    ∷ (7 ∷ 0xAC ∷ 2 ∷ [], 1, Value 300 3)
    ∷ (tenth 1, 0, Value (2 ^ 64 - 1) 10)
    ∷ ([], 0, Refused 20 0)
    ∷ (7 ∷ [], 5, Refused 20 1)
    ∷ (7 ∷ 0x80 ∷ [], 1, Refused 20 2)
    ∷ (replicate 9 255, 0, Refused 20 9)
    ∷ (7 ∷ 0x80 ∷ 0 ∷ [], 1, Refused 21 1)
    ∷ (tenth 0, 0, Refused 21 0)
    ∷ (tenth 2, 0, Refused 21 0)
    ∷ (tenth 0x81, 0, Refused 21 0)
    ∷ []

read : map (λ c. num_at c.0 c.1) readings ≡ map (λ c. c.2) readings
unfolding num_at ends_with last_of value_of is_long is_over least ◌and◌ ◌or◌
read = refl

-- a number, and its bytes
abbrev writings : List (ℕ × List ℕ)
writings = (0, 0 ∷ []) ∷ (300, 0xAC ∷ 2 ∷ []) ∷ (2 ^ 64 - 1, tenth 1) ∷ []

written : map (λ c. num_bytes c.0) writings ≡ map (λ c. c.1) writings
unfolding num_bytes groups_of
written = refl
