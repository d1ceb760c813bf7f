-- Assumes nothing.
use mathlib.Core.Path.{refl, sym}
use Rattle.std.proofs.lemmas.Result.{err_from_is_err_and}
use Rattle.hierarchy.specs.Rules.{site}
use Rattle.hierarchy.proofs.Accepted.{insert_fits}
use Rattle.hierarchy.proofs.Laws.{site_sound}
use Rattle.hierarchy.proofs.Answers.{insert-refused, insert-accepted}
use borrow.Author.Rules.{rules}
use Rattle.hierarchy.proofs.insert_edge.Goals as goal

pub of-requires : goal.of-requires
of-requires c = (c.requires.0.modify, λ e. site_sound c.args.p.now c.args.o refl (c.requires.1 e))

pub returns-in_err-insert_outcome : goal.returns-in_err-insert_outcome
returns-in_err-insert_outcome c =
    let given = err_from_is_err_and c.from_residual.result c.from_residual.ensures.1 in
    rw (given.1, given.2) (insert-refused _ _ _ _ c.of.ensures _ c.in_err-insert_outcome.ensures)

pub insert-requires : goal.insert-requires
unfolding site
insert-requires c =
    let accepted = rw c.of.ensures at c.in_ok-insert_outcome.ensures in
    insert_fits (site c.args.p.now c.args.o) (search rules) _ _ (sym accepted)

pub returns : goal.returns
returns c = insert-accepted _ _ _ _ c.of.ensures c.in_ok-insert_outcome.ensures c.insert.ensures
