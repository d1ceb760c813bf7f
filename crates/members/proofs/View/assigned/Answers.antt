use mathlib.Core.Path.{sym}
use Rattle.members.proofs.Laws.{with_is}
use Rattle.members.proofs.Keep.{assign_below}
use borrow.Author.Rules.{rules}
use Rattle.members.proofs.View.assigned.Goals as goal

pub with-requires : goal.with-requires
with-requires c = assign_below _ _ (search rules) (sym c.in_ok-assign_outcome.ensures)

pub returns : goal.returns
returns c = (sym c.in_ok-assign_outcome.ensures, with_is _ _ _ (search rules) c.with.ensures)
