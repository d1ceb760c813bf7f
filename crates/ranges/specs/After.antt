-- A change of the order, where each row was sound before it: what is compared, so that few rows are tested whole.
-- f says who is senior to whom before the change, and g after it.
use Rattle.std.specs.Prelude.{◌≡◌, Bool, true, false, List, ℕ, ◌<◌, leb, ltb, length, get_or}
use Rattle.sets.specs.Tests.{◌and◌}
use Rattle.sets.specs.Sets.{has, any, Exactly}
use Rattle.order.specs.Order.{Relation, InUse}
use Rattle.ranges.specs.declared.ModifyRow.{ModifyRow}
use Rattle.ranges.specs.Ranges.{Encapsulated, overlap_in_part}
use Rattle.ranges.specs.Rows.{row_at, within, SoundRows}

-- what is asked of a change: before it pairs stood between roles in use and the rows were sound
pub record SoundBefore (rows : List ModifyRow) (used : ℕ) (f : Relation) : Type 0 where
  pub in_use : InUse used f
  pub sound : SoundRows used f (length rows) rows

-- r stands to each role outside a set as it did before
pub record SameAt (f g : Relation) (differs r : ℕ) : Type 0 where
  pub juniors : (s : ℕ) → has differs s ≡ false → g r s ≡ f r s
  pub seniors : (s : ℕ) → has differs s ≡ false → g s r ≡ f s r

-- the same of each role that was in use
pub record SameOutside (used : ℕ) (f g : Relation) (differs : ℕ) : Type 0 where
  pub same : (r : ℕ) → has used r ≡ true → SameAt f g differs r

-- what the test of one row after the change is given: the row was sound, and a set has all roles that do not stand as before
pub record RowBefore (used : ℕ) (f g : Relation) (differs : ℕ) (row : ModifyRow) : Type 0 where
  pub in_use : InUse used f
  pub low_junior : f row.high.0 row.low.0 ≡ true
  pub capsule : Encapsulated used f row.low.0 row.high.0
  pub outside : SameOutside used f g differs

-- low of a row is junior to high, high has the seniors and low the juniors that they had before
pub record EndsStay (f g : Relation) (row : ModifyRow) : Type 0 where
  pub low_junior : g row.high.0 row.low.0 ≡ true
  pub over : (s : ℕ) → g s row.high.0 ≡ f s row.high.0
  pub under : (s : ℕ) → g row.low.0 s ≡ f row.low.0 s

-- the change leaves all that says that a row's range is encapsulated, but for roles that were not in use before
pub record KeptRow (used : ℕ) (f g : Relation) (row : ModifyRow) (range outside differs : ℕ) : Type 0 where
  pub ends : EndsStay f g row
  pub members : (r : ℕ) → has used r ≡ true → has range r ≡ within f row r
  pub clear : (s : ℕ) → has outside s ≡ true → has differs s ≡ false

-- each row has the range that it had before
pub record RangesStay (f g : Relation) (count : ℕ) (rows : List ModifyRow) : Type 0 where
  pub stays : (i : ℕ) → i < count → (r : ℕ) → within g (row_at rows i) r ≡ within f (row_at rows i) r

-- the sets at the rows' places are their ranges
pub record RangeSets (g : Relation) (count : ℕ) (rows : List ModifyRow) (sets : List ℕ) : Type 0 where
  pub ranges : (i : ℕ) → i < count → Exactly (get_or sets i 0) (within g (row_at rows i))

-- a set from a place on overlaps a range in part
unfoldable pub cut_from : List ℕ → ℕ → ℕ → Bool
cut_from sets from range = any (length sets) (λ j. leb from j and overlap_in_part (has range) (has (get_or sets j 0)))

-- some set overlaps a later one in part
unfoldable pub some_cut : List ℕ → Bool
some_cut sets = any (length sets) (λ i. any (length sets) (λ j. ltb i j and overlap_in_part (has (get_or sets i 0)) (has (get_or sets j 0))))
