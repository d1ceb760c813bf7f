use Rattle.sets.proofs.Quantifiers.{trailing_lowest, trailing_fits}
use Rattle.sets.proofs.lowest_free.Goals as goal

pub overflow_cast-result : goal.overflow_cast-result
overflow_cast-result c = trailing_fits _

pub returns : goal.returns
returns c = trailing_lowest 64 c.args.s c.ranges.s.fits
