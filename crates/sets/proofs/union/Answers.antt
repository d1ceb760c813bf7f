use Rattle.sets.proofs.Digits.{has-or}
use Rattle.sets.proofs.union.Goals as goal

pub returns : goal.returns
returns c = has-or c.args.s c.args.t
