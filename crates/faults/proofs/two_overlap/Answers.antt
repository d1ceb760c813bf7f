-- Assumes nothing.
use borrow.Author.Rules.{rules}
use Rattle.ranges.specs.Ranking.{order_of}
use Rattle.faults.proofs.Laws.{pair_found}
use Rattle.faults.proofs.two_overlap.Goals as goal

pub returns : goal.returns
returns c = rw c.first_overlap.ensures (pair_found (order_of c.args.ranking) c.args.modify (search rules))
