-- Assumes nothing.
use Rattle.answers.specs.Answers.{packed}
use mathlib.Core.Path.{refl}
use Rattle.answers.proofs.pack.Goals as goal

pub returns : goal.returns
unfolding packed
returns c = refl
