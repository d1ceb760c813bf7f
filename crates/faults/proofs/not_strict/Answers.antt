-- Assumes nothing.
use borrow.Author.Rules.{rules}
use Rattle.faults.proofs.Laws.{strict_found}
use Rattle.faults.proofs.not_strict.Goals as goal

pub returns : goal.returns
returns c = rw c.first_fault.ensures (strict_found c.args.order (search rules))
