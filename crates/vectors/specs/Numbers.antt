-- Numbers of the data files' records, "lowest byte first".
use Rattle.std.specs.Prelude.{ℕ, ◌≡◌, ◌+◌, ◌-◌, ◌*◌, ◌<◌, List, length, drop, slice_index}

abbrev pub byte_at : List ℕ → ℕ → ℕ
byte_at s at = slice_index s at

abbrev pub two_at : List ℕ → ℕ → ℕ
two_at s at = byte_at s at + 256 * byte_at s (at + 1)

abbrev pub four_at : List ℕ → ℕ → ℕ
four_at s at = two_at s at + 65536 * two_at s (at + 2)

abbrev pub eight_at : List ℕ → ℕ → ℕ
eight_at s at = four_at s at + 4294967296 * four_at s (at + 4)

-- bytes that stand at the end of others, from a place further on
abbrev pub IsLater : List ℕ → List ℕ → Type 0
IsLater rest s = (rest ≡ drop (length s - length rest) s) × (length rest < length s)
