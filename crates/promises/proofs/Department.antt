-- The two policies of the P cases as files: their bytes, that they are read as these policies, by computation, and what a check answers.
-- Assumes nothing.
use mathlib.Core.Path.{◌≡◌, refl, ap}
use Prim.Native.Nat.{ℕ}
use Rattle.requests.specs.Examples.{F, chain}
use Rattle.reading.specs.File.{Accepted}
use Rattle.reading.specs.File.{Loaded}
use Rattle.reading.proofs.Opened.{reading_opened}
use Rattle.layout.proofs.Opened.{writing_opened}
use Rattle.reading.specs.File.{read_policy}
use Rattle.layout.specs.Layout.{policy_bytes}
use Rattle.answers.specs.Answers.{fields, apart}
use Rattle.entries.specs.Entries.{CheckOf}
use Rattle.promises.specs.Department.{department_file, chain_file}
use Rattle.promises.proofs.Others.{check_accepts}

-- ---- F

-- the bytes of examples/F.policy are the file of the F that the P cases start from
pub department_file_lem : policy_bytes F ≡ department_file
unfolding F writing_opened
department_file_lem = refl

-- and are read as F
pub department_loads : read_policy department_file ≡ record { how = Accepted; policy = F }
unfolding F reading_opened
department_loads = refl

-- ---- case 13's chain, with rows (0, 2) and (1, 4)

pub chain_file_lem : policy_bytes chain ≡ chain_file
unfolding chain writing_opened
chain_file_lem = refl

-- its ranges are {1} and {2, 3}, both encapsulated, and they share no role: it is read
pub chain_loads : read_policy chain_file ≡ record { how = Accepted; policy = chain }
unfolding chain reading_opened
chain_loads = refl

-- ---- so a check of either file answers 0, with number, place and length 0

pub department_checked : {r : ℕ} → CheckOf (policy_bytes F) r → apart r ≡ fields 0 0 0 0
department_checked w = check_accepts w (rw department_file_lem (ap (λ (m : Loaded). m.how) department_loads))

pub chain_checked : {r : ℕ} → CheckOf (policy_bytes chain) r → apart r ≡ fields 0 0 0 0
chain_checked w = check_accepts w (rw chain_file_lem (ap (λ (m : Loaded). m.how) chain_loads))
