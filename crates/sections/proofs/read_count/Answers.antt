-- Assumes nothing.
use Rattle.std.proofs.Common.{rules}
use lib.Dec.{leb}
use Rattle.sections.specs.Numbers.{count_at}
use Rattle.sections.proofs.read_count.Goals as goal

pub returns : goal.returns
unfolding count_at
returns c = c.read_fitting.ensures (λ x. leb x c.args.most) (λ x b h p. search rules)
