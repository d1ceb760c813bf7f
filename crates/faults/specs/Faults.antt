-- What is looked at once a file is read to its end. Document 01, "The policy file":
-- "23 either order not strict; 24 a can-modify low not junior to high; 25 a range not encapsulated; 26 two overlap in part".
use Rattle.std.specs.Prelude.{Bool, ℕ, Option, None, Some}
use Rattle.sets.specs.Tests.{◌or◌}
use Rattle.sets.specs.Sets.{any}
use Rattle.order.specs.declared.Order.{Order}
use Rattle.order.specs.Order.{senior, faulty}
use Rattle.ranges.specs.Rows.{row_at, low_not_junior, not_encapsulated, overlap}
use Rattle.policy.specs.declared.Orders.{Orders}
use Rattle.policy.specs.declared.Ranges.{Ranges}
use Rattle.policy.specs.Outcome.{accept, refuse, first}
use Rattle.faults.specs.declared.Fault.{Fault}
use Rattle.faults.specs.declared.Fault.TheVariants.{NotStrict, LowNotJunior, NotEncapsulated, Overlap}

-- the number of each fault
abbrev pub number : Fault → ℕ
number NotStrict = 23
number LowNotJunior = 24
number NotEncapsulated = 25
number Overlap = 26

-- the number of what is found, and 0 where nothing is
abbrev pub number_of : Option Fault → ℕ
number_of None = 0
number_of (Some f) = number f

-- "nothing is senior to itself, and senior-of-senior is senior" does not hold of some number
unfoldable pub not_strict : Order → Bool
not_strict o = any 64 (faulty (senior o.juniors))

-- "a can-modify low not junior to high"
unfoldable pub some_low : Order → Ranges → Bool
some_low o m = any m.count (λ i. low_not_junior (senior o.juniors) (row_at m.rows i))

-- "a range not encapsulated"
unfoldable pub some_open : Order → Ranges → Bool
some_open o m = any m.count (λ i. not_encapsulated o.used (senior o.juniors) (row_at m.rows i))

-- "two overlap in part"
unfoldable pub two_overlap : Order → Ranges → Bool
two_overlap o m =
    any m.count (λ i. any m.count (λ j. overlap (senior o.juniors) (row_at m.rows i) (row_at m.rows j)))

-- the number of the first that holds, and 0 where none does
unfoldable pub fault : Orders → Ranges → ℕ
fault o m =
    first
    (refuse (not_strict o.roles or not_strict o.admins) 23
    (refuse (some_low o.roles m) 24
    (refuse (some_open o.roles m) 25
    (refuse (two_overlap o.roles m) 26
    accept))))
