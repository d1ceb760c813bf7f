use Rattle.sets.proofs.Digits.{has-and}
use Rattle.sets.proofs.both.Goals as goal

pub returns : goal.returns
returns c = has-and c.args.s c.args.t
