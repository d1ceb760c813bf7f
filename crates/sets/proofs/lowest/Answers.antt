-- Assumes nothing.
use Rattle.sets.proofs.Quantifiers.{trailing_member, trailing_fits}
use Rattle.sets.proofs.lowest.Goals as goal

pub overflow_cast-result : goal.overflow_cast-result
overflow_cast-result c = trailing_fits _

pub returns : goal.returns
returns c = trailing_member 64 c.args.s
