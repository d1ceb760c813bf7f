-- The can-modify rows: which row fails, and which two overlap in part.
use Rattle.std.specs.Prelude.{◌≡◌, Bool, true, false, List, ℕ, ◌<◌, leb, ltb, get_or}
use Rattle.sets.specs.Tests.{◌and◌, ◌or◌, neg}
use Rattle.sets.specs.Sets.{any, least}
use Rattle.order.specs.Order.{Relation}
use Rattle.ranges.specs.declared.ModifyRow.{ModifyRow}
use Rattle.ranges.specs.declared.Look.{Look}
use Rattle.ranges.specs.declared.Look.TheVariants.{Low, Open, Either}
use Rattle.ranges.specs.Ranges.{inside, encapsulated, Encapsulated, overlap_in_part}

-- what stands past the last row
abbrev pub no_row : ModifyRow
no_row = record { admin = record { 0 = 0 }; low = record { 0 = 0 }; high = record { 0 = 0 } }

-- the row at i, and who is in its range
abbrev pub row_at : List ModifyRow → ℕ → ModifyRow
row_at rows i = get_or rows i no_row

unfoldable pub within : Relation → ModifyRow → ℕ → Bool
within f row r = inside f row.low.0 row.high.0 r

-- "low strictly junior to high" does not hold: number 24
unfoldable pub low_not_junior : Relation → ModifyRow → Bool
low_not_junior f row = neg (f row.high.0 row.low.0)

-- the range is not encapsulated: number 25
unfoldable pub not_encapsulated : ℕ → Relation → ModifyRow → Bool
not_encapsulated used f row = neg (encapsulated used f row.low.0 row.high.0)

-- a row fails the test that is looked for
unfoldable pub row_fails : Look → ℕ → Relation → ModifyRow → Bool
-- 24: "low strictly junior to high" does not hold
row_fails Low used f row = low_not_junior f row
-- 25: the range is not encapsulated
row_fails Open used f row = not_encapsulated used f row
-- 9: either of the two
row_fails Either used f row = low_not_junior f row or not_encapsulated used f row

-- the first of the rows that fails, and their count where none does
unfoldable pub first_failing : Look → ℕ → Relation → ℕ → List ModifyRow → ℕ
first_failing look used f count rows = least count (λ i. row_fails look used f (row_at rows i))

-- two rows whose ranges overlap in part: number 26
unfoldable pub overlap : Relation → ModifyRow → ModifyRow → Bool
overlap f row other = overlap_in_part (within f row) (within f other)

-- the first row from a place on that overlaps a range in part, and the rows' count where none does
unfoldable pub overlap_from : Relation → ℕ → List ModifyRow → ℕ → (ℕ → Bool) → ℕ
overlap_from f count rows from range = least count (λ j. leb from j and overlap_in_part range (within f (row_at rows j)))

-- the first row that overlaps a later one in part, and the rows' count where none does
unfoldable pub first_overlap : Relation → ℕ → List ModifyRow → ℕ
first_overlap f count rows = least count (λ i. any count (λ j. ltb i j and overlap f (row_at rows i) (row_at rows j)))

-- number 9: "some authority range would have low not junior to high, would not be encapsulated, or two would overlap in part"
unfoldable pub unsound : ℕ → Relation → ℕ → List ModifyRow → Bool
unsound used f count rows =
    any count (λ i. low_not_junior f (row_at rows i)) or any count (λ i. not_encapsulated used f (row_at rows i))
    or any count (λ i. any count (λ j. overlap f (row_at rows i) (row_at rows j)))

-- that none of it is so, as a statement
pub record SoundRows (used : ℕ) (f : Relation) (count : ℕ) (rows : List ModifyRow) : Type 0 where
  pub low_junior : (i : ℕ) → i < count → f (row_at rows i).high.0 (row_at rows i).low.0 ≡ true
  pub capsule : (i : ℕ) → i < count → Encapsulated used f (row_at rows i).low.0 (row_at rows i).high.0
  pub apart : (i j : ℕ) → i < count → j < count → overlap f (row_at rows i) (row_at rows j) ≡ false
