-- Assumes nothing.
use Prim.Native.Nat.{◌-◌}
use native.Mathlib.Omega.{arith}
use lib.Bits.{and_le_r}
use Rattle.sets.proofs.Members.{has_without_lowest}
use Rattle.sets.proofs.without_lowest.Goals as goal

pub returns : goal.returns
returns c = (omega (arith, and_le_r c.args.s (c.args.s - 1)), λ m. has_without_lowest 64 c.args.s m c.requires c.ranges.s.fits)
