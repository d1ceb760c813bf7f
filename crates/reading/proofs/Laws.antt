-- What the reader of a file knows at each section it has read.
-- Assumes nothing.
use Prim.Native.Nat.{ℕ}
use mathlib.Core.Path.{◌≡◌, refl}
use mathlib.Core.Bool.{false}
use lib.Dec.{eqb}
use Rattle.sets.specs.Sets.{set_of}
use Rattle.number.specs.Run.{Step, go, stop}
use Rattle.sections.specs.Sections.{all_below}
use Rattle.faults.specs.declared.Fault.{Fault}
use Rattle.faults.specs.declared.Fault.TheVariants.{NotStrict, LowNotJunior, NotEncapsulated, Overlap}
use Rattle.faults.specs.Faults.{number}
use Rattle.reading.specs.File.{Accepted, Refused}
use Rattle.reading.specs.declared.File.{File}
use Rattle.reading.specs.File.{loaded}
use Rattle.policy.specs.Build.{empty_policy}

-- ---- the numbers there are, as the code has them
pub all_roles : all_below 64 ≡ 0xFFFFFFFFFFFFFFFF
unfolding all_below set_of
all_roles = refl

pub all_admins : all_below 16 ≡ 0xFFFF
unfolding all_below set_of
all_admins = refl

-- ---- the policy alone
pub loaded_go : (w : Step File) {x : File} {e : ℕ} → w ≡ go e x → loaded w ≡ record { how = Accepted; policy = x.policy }
loaded_go w q = rw q

pub loaded_stop : (w : Step File) {c p : ℕ} → w ≡ stop c p → loaded w ≡ record { how = Refused c p; policy = empty_policy }
loaded_stop w q = rw q

-- ---- a fault's number is not 0
pub a_fault : (f : Fault) → eqb (number f) 0 ≡ false
a_fault NotStrict = refl
a_fault LowNotJunior = refl
a_fault NotEncapsulated = refl
a_fault Overlap = refl
