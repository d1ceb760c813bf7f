use mathlib.Core.Path.{◌∙◌}
use native.Mathlib.Nat.{mod-lt}
use lib.Pow.{pow_pos}
use Rattle.sets.proofs.Digits.{has_one, has_minus}
use Rattle.sets.proofs.without.Goals as goal

pub returns : goal.returns
returns c =
    λ m.
    has_minus 64 c.args.s _ m c.ranges.s.fits (mod-lt _ (pow_pos 64)) ∙ rw (has_one 64 c.args.n m c.requires)
