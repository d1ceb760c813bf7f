-- Assumes nothing.
use mathlib.Core.Path.{sym}
use Rattle.std.proofs.lemmas.Result.{err_from_is_err_and}
use Rattle.hierarchy.specs.Rules.{site}
use Rattle.hierarchy.proofs.Accepted.{delete_fits, site-size}
use Rattle.hierarchy.proofs.Answers.{delete_refused, delete_accepted}
use borrow.Author.Rules.{rules}
use Rattle.hierarchy.proofs.delete_role.Goals as goal

pub delete_outcome-requires : goal.delete_outcome-requires
delete_outcome-requires c = site-size _ _ c.of.ensures c.requires.modify

pub returns-in_err-delete_outcome : goal.returns-in_err-delete_outcome
returns-in_err-delete_outcome c =
    let given = err_from_is_err_and c.from_residual.result c.from_residual.ensures.1 in
    rw (given.1, given.2) (delete_refused _ _ _ _ c.of.ensures c.is_named-named.ensures c.is_occupied.ensures _ c.in_err-delete_outcome.ensures)

pub remove-requires : goal.remove-requires
unfolding site
remove-requires c =
    let accepted = rw c.of.ensures at c.in_ok-delete_outcome.ensures in
    delete_fits (site c.args.p.now c.args.o) (search rules) _ _ _ _ (sym accepted)

pub returns : goal.returns
returns c = delete_accepted _ _ _ _ c.of.ensures c.is_named-named.ensures c.is_occupied.ensures c.in_ok-delete_outcome.ensures c.remove.ensures
