-- Assumes nothing.
use Rattle.std.proofs.Common.{rules}
use Rattle.sets.specs.Sets.{subset}
use Rattle.sections.specs.Numbers.{set_at}
use Rattle.sections.proofs.read_set.Goals as goal

pub returns : goal.returns
unfolding set_at
returns c = c.read_fitting.ensures (λ x. subset 64 x c.args.of) (λ x b h p. search rules)
