use Rattle.sets.proofs.Digits.{has_one}
use Rattle.sets.proofs.only.Goals as goal

pub returns : goal.returns
returns c = λ m. has_one 64 c.args.n m c.requires
