use Rattle.sets.proofs.Digits.{has_one, has-or}
use Rattle.sets.proofs.with.Goals as goal

pub returns : goal.returns
returns c = λ m. rw (has-or, has_one 64 c.args.n m c.requires)
