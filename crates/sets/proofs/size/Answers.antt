use Rattle.sets.proofs.Quantifiers.{ones_size}
use Rattle.sets.proofs.size.Goals as goal

pub returns : goal.returns
returns c = ones_size 64 c.args.s c.ranges.s.fits
