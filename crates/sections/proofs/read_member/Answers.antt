-- Assumes nothing.
use Rattle.std.proofs.Common.{rules}
use Rattle.sets.specs.Sets.{has}
use Rattle.sections.specs.Numbers.{member_at}
use Rattle.sections.proofs.read_member.Goals as goal

pub returns : goal.returns
unfolding member_at
returns c = c.read_fitting.ensures (has c.args.of) (λ x b h p. search rules)
