use mathlib.Core.Path.{sym}
use Rattle.members.proofs.Laws.{without_is}
use Rattle.members.proofs.Keep.{revoke_below}
use borrow.Author.Rules.{rules}
use Rattle.members.proofs.View.revoked.Goals as goal

pub without-requires : goal.without-requires
without-requires c = revoke_below _ _ (search rules) (sym c.in_ok-revoke_outcome.ensures)

pub returns : goal.returns
returns c = (sym c.in_ok-revoke_outcome.ensures, without_is _ _ _ (search rules) c.without.ensures)
