-- What the walks find, and what a policy is in which they find nothing.
-- Assumes nothing.
use mathlib.Core.Path.{◌≡◌, sym}
use Prim.Native.Nat.{◌≤◌}
use lib.Dec.{ltb}
use lib.ListN.{length, take}
use Rattle.sets.proofs.Quantifiers.{least_any}
use Rattle.order.specs.declared.Order.{Order}
use Rattle.order.specs.Order.{senior, faulty, first_fault}
use Rattle.ranges.specs.Rows.{first_overlap}
use Rattle.ranges.proofs.Checks.{overlap_found, some_overlap_lent}
use Rattle.policy.specs.declared.Ranges.{Ranges}
use Rattle.faults.specs.Faults.{not_strict, two_overlap}

pub strict_found : (o : Order) → length o.juniors ≡ 64 → ltb (first_fault o.juniors) 64 ≡ not_strict o
unfolding first_fault not_strict
strict_found o e = rw e (sym (least_any 64 (faulty (senior o.juniors))))

pub pair_found : (o : Order) (m : Ranges) → m.count ≤ length m.rows
    → ltb (first_overlap (senior o.juniors) (length (take m.count m.rows)) (take m.count m.rows)) (length (take m.count m.rows)) ≡ two_overlap o m
unfolding two_overlap
pair_found o m fits = some_overlap_lent m.count m.rows fits (senior o.juniors)

-- the same of the rows up to a count, however many there are
pub two_found : (o : Order) (m : Ranges) → ltb (first_overlap (senior o.juniors) m.count m.rows) m.count ≡ two_overlap o m
unfolding two_overlap
two_found o m = overlap_found (senior o.juniors) m.count m.rows
