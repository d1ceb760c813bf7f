-- What the finder of a part knows at each test, and where a part that is found stands.
-- Assumes nothing.
use Prim.Native.Nat.{ℕ, ◌+◌, ◌-◌, ◌<◌, ◌≤◌}
use mathlib.Core.Path.{◌≡◌, refl}
use mathlib.Core.Bool.{Bool, true, false}
use mathlib.Core.List.{List, []}
use native.Mathlib.Omega.{arith}
use borrow.Author.Tests.{le-leb, lt-leb}
use lib.Dec.{eqb}
use lib.ListN.{length}
use Rattle.std.specs.Prelude.{Result, Ok, Err, IsErrAnd}
use Rattle.parts.specs.declared.TableName.{TableName}
use Rattle.parts.specs.declared.TableName.TheVariants.{Assign, Revoke, Assignp, Revokep, Modify}
use Rattle.parts.specs.declared.PartError.{PartError}
use Rattle.parts.specs.declared.PartError.TheVariants as error
use Rattle.sets.specs.Tests.{pick}
use Rattle.sets.proofs.Tests.{and_i, and_fails_l, and_fails_r}
use Rattle.number.specs.Run.{Step, go, stop}
use Rattle.reading.specs.File as how
use Rattle.reading.specs.declared.Places.{Places}
use Rattle.reading.specs.declared.File.{File}
use Rattle.reading.specs.File.{file_at, read_policy}
use Rattle.reading.proofs.Bounds.{Placed}
use Rattle.reading.proofs.Theorems.{file_placed}
use Rattle.parts.specs.Parts.{Found, Refused}
use Rattle.parts.specs.Parts.{is_table, table_number, as_part, start_of, end_of, part_of, part_at, bytes_of}

-- ---- a table's number
module _ (k : ℕ) where
  pub table_low : k < 1 → is_table k ≡ false
  unfolding is_table
  table_low h = and_fails_l _ _ (lt-leb 1 k h)

  pub table_high : 5 < k → is_table k ≡ false
  unfolding is_table
  table_high h = and_fails_r _ _ (lt-leb k 5 h)

  pub table_is : 1 ≤ k → k ≤ 5 → is_table k ≡ true
  unfolding is_table
  table_is h l = and_i _ _ (le-leb 1 k h) (le-leb k 5 l)

-- ---- a table starts before it ends, within the input
pub record InsideInput (s : List ℕ) (start end : ℕ) : Type 0 where
  pub some : start < end
  pub within : end ≤ length s

pub part_inside : {s : List ℕ} {p : Places} (k : ℕ) → Placed s p → InsideInput s (start_of p k) (end_of p k)
unfolding start_of end_of
part_inside {s} {p} k w = by (eqb k 1) (eqb k 2) (eqb k 3) (eqb k 4)
  where
    by : (a b c d : Bool) → InsideInput s (pick a p.assign (pick b p.revoke (pick c p.assignp (pick d p.revokep p.modify))))
        (pick a p.revoke (pick b p.assignp (pick c p.revokep (pick d p.modify p.end))))
    by true b c d = record { some = w.assign; within = omega arith }
    by false true c d = record { some = w.revoke; within = omega arith }
    by false false true d = record { some = w.assignp; within = omega arith }
    by false false false true = record { some = w.revokep; within = omega arith }
    by false false false false = record { some = w.modify; within = w.end }

pub file_inside : {s : List ℕ} {e : ℕ} {f : File} (k : ℕ) → file_at s ≡ go e f → InsideInput s (start_of f.places k) (end_of f.places k)
file_inside {s} k q = part_inside k (file_placed s q)

-- ---- a part that is found: the file was accepted
pub part_found : (s : List ℕ) (k : ℕ) {a n : ℕ} → part_at s k ≡ Found a n
    → (is_table k ≡ true) × (e : ℕ) × (f : File) × (file_at s ≡ go e f) × (a ≡ start_of f.places k)
    × (n ≡ end_of f.places k - start_of f.places k)
unfolding part_at
part_found s k {a} {n} q = by (is_table k) refl (file_at s) refl q
  where
    by : (t : Bool) → is_table k ≡ t → (w : Step File) → file_at s ≡ w → pick t (part_of k w) (Refused 1 0) ≡ Found a n
        → (is_table k ≡ true) × (e : ℕ) × (f : File) × (file_at s ≡ go e f) × (a ≡ start_of f.places k)
        × (n ≡ end_of f.places k - start_of f.places k)
    by true t (go e f) w q = (t, e, f, w, (cc), (cc))
    by true t (stop c p) w q = absurd (let z : ◌≡◌ {A = ℕ} 0 1 = cc in omega arith)
    by false t w v q = absurd (let z : ◌≡◌ {A = ℕ} 0 1 = cc in omega arith)

-- it has a byte, and ends within the input
pub found_inside : (s : List ℕ) (k : ℕ) {a n : ℕ} → part_at s k ≡ Found a n → (0 < n) × (a + n ≤ length s)
found_inside s k {a} {n} q =
    let w = part_found s k q in
    let i = file_inside k w.3 in
    (omega (arith, i.some, w.5), omega (arith, i.within, i.some, w.4, w.5))

pub part_accepted : (s : List ℕ) (k : ℕ) {a n : ℕ} → part_at s k ≡ Found a n → (read_policy s).how ≡ how.Accepted
unfolding read_policy
part_accepted s k q = let w = part_found s k q in rw w.3

-- a refusal that is handed on
pub part_stops : (r : Result (ℕ × ℕ) PartError) (e : PartError) → IsErrAnd r (λ f. f ≡ e) → as_part r ≡ as_part (Err e)
part_stops (Ok x) e h = absurd h
part_stops (Err f) e h = rw h

-- a table's number
pub named : (table : TableName) {k : ℕ} → table_number table ≡ k → is_table k ≡ true
named Assign e = rw (← e) (table_is 1 (omega arith) (omega arith))
named Revoke e = rw (← e) (table_is 2 (omega arith) (omega arith))
named Assignp e = rw (← e) (table_is 3 (omega arith) (omega arith))
named Revokep e = rw (← e) (table_is 4 (omega arith) (omega arith))
named Modify e = rw (← e) (table_is 5 (omega arith) (omega arith))

-- a refusal has no bytes
pub nothing_found : (s : List ℕ) (e : PartError) → [] ≡ bytes_of s (as_part (Err e))
nothing_found s error.NoTable = refl
nothing_found s (error.File e) = refl
