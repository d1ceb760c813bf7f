-- What the numbers 23 to 26 mean, and what holds of a policy that has none of them.
-- Assumes nothing.
use Prim.Native.Nat.{ℕ, ◌^◌, ◌<◌, ◌≤◌}
use mathlib.Core.Path.{◌≡◌, refl, ◌∙◌}
use mathlib.Core.Bool.{Bool, true, false}
use native.Mathlib.Omega.{arith}
use borrow.Author.Tests.{ltb-false}
use lib.ListN.{length, get_or}
use Rattle.sets.specs.Tests.{◌or◌, pick}
use Rattle.sets.proofs.Tests.{or_fails}
use Rattle.sets.proofs.Quantifiers.{least_le}
use Rattle.order.specs.declared.Order.{Order}
use Rattle.order.specs.Order.{senior, faulty, first_fault, Strict, InUse}
use Rattle.order.proofs.Lists.{no_fault_strict}
use Rattle.ranges.specs.Rows.{unsound, SoundRows}
use Rattle.ranges.proofs.Meaning.{sound_means}
use Rattle.policy.specs.declared.Orders.{Orders}
use Rattle.policy.specs.declared.Ranges.{Ranges}
use Rattle.policy.specs.Outcome.{first}
use Rattle.faults.specs.Faults.{not_strict, some_low, some_open, two_overlap, fault}
use Rattle.faults.proofs.Laws.{strict_found}

-- none of the four holds
pub record Faultless (o : Orders) (m : Ranges) : Type 0 where
  pub strict : (not_strict o.roles or not_strict o.admins) ≡ false
  pub low : some_low o.roles m ≡ false
  pub capsule : some_open o.roles m ≡ false
  pub apart : two_overlap o.roles m ≡ false

-- the number, by what holds
abbrev number_by : Bool → Bool → Bool → Bool → ℕ
number_by a b c d = pick a 23 (pick b 24 (pick c 25 (pick d 26 0)))

module _ (o : Orders) (m : Ranges) where
  pub no_fault : fault o m ≡ 0 → Faultless o m
  unfolding fault first
  no_fault q = by (not_strict o.roles or not_strict o.admins) refl (some_low o.roles m) refl (some_open o.roles m) refl (two_overlap o.roles m) refl q
    where
      by : (a : Bool) → (not_strict o.roles or not_strict o.admins) ≡ a → (b : Bool) → some_low o.roles m ≡ b → (c : Bool) → some_open o.roles m ≡ c
          → (d : Bool) → two_overlap o.roles m ≡ d → number_by a b c d ≡ 0 → Faultless o m
      by true ea b eb c ec d ed q = absurd (omega arith)
      by false ea true eb c ec d ed q = absurd (omega arith)
      by false ea false eb true ec d ed q = absurd (omega arith)
      by false ea false eb false ec true ed q = absurd (omega arith)
      by false ea false eb false ec false ed q = record { strict = ea; low = eb; capsule = ec; apart = ed }

  -- a fault is 23 to 26
  pub fault_number : (fault o m ≡ 0 → ⊥) → (23 ≤ fault o m) × (fault o m ≤ 26)
  unfolding fault first
  fault_number = by (not_strict o.roles or not_strict o.admins) (some_low o.roles m) (some_open o.roles m) (two_overlap o.roles m)
    where
      by : (a b c d : Bool) → (number_by a b c d ≡ 0 → ⊥)
          → (23 ≤ number_by a b c d) × (number_by a b c d ≤ 26)
      by true b c d n = (omega arith, omega arith)
      by false true c d n = (omega arith, omega arith)
      by false false true d n = (omega arith, omega arith)
      by false false false true n = (omega arith, omega arith)
      by false false false false n = absurd (n refl)

-- an order that is not found to be not strict is strict
pub strict_means : (o : Order) → length o.juniors ≡ 64 → ((a : ℕ) → get_or o.juniors a 0 < 2 ^ 64) → not_strict o ≡ false → Strict (senior o.juniors)
unfolding first_fault
strict_means o long small n =
    no_fault_strict o.juniors small (omega arith)
    (omega (arith, ltb-false (first_fault o.juniors) 64 (strict_found o long ∙ n), least_le (length o.juniors) (faulty (senior o.juniors))))

-- and rows in which nothing is found are sound
pub sound_rows : (o : Order) (m : Ranges) → o.used < 2 ^ 64 → InUse o.used (senior o.juniors)
    → some_low o m ≡ false → some_open o m ≡ false → two_overlap o m ≡ false
    → SoundRows o.used (senior o.juniors) m.count m.rows
unfolding unsound some_low some_open two_overlap
sound_rows o m width in_use l c p =
    sound_means o.used (senior o.juniors) width in_use m.count m.rows (or_fails _ _ l (or_fails _ _ c p))
