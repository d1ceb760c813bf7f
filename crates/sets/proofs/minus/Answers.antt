use Rattle.sets.proofs.Digits.{has_minus}
use Rattle.sets.proofs.minus.Goals as goal

pub returns : goal.returns
returns c = λ n. has_minus 64 c.args.s c.args.t n c.ranges.s.fits c.ranges.t.fits
