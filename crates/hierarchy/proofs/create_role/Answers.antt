-- Assumes nothing.
use mathlib.Core.Path.{refl, sym}
use Rattle.std.proofs.lemmas.Result.{err_from_is_err_and}
use Rattle.hierarchy.specs.Rules.{site}
use Rattle.hierarchy.proofs.Accepted.{create_fits}
use Rattle.hierarchy.proofs.Laws.{site_sound}
use Rattle.hierarchy.proofs.Answers.{create-refused, create-accepted}
use borrow.Author.Rules.{rules}
use Rattle.hierarchy.proofs.create_role.Goals as goal

pub of-requires : goal.of-requires
of-requires c = (c.requires.0.modify, λ e. site_sound c.args.p.now c.args.o refl (c.requires.1 e))

pub returns-in_err-create_outcome : goal.returns-in_err-create_outcome
returns-in_err-create_outcome c =
    let given = err_from_is_err_and c.from_residual.result c.from_residual.ensures.1 in
    rw (given.1, given.2) (create-refused _ _ _ _ c.of.ensures _ c.in_err-create_outcome.ensures)

pub create-requires : goal.create-requires
unfolding site
create-requires c =
    let accepted = rw c.of.ensures at c.in_ok-create_outcome.ensures in
    create_fits (site c.args.p.now c.args.o) (search rules) _ _ (sym accepted) _ c.lowest_free-n.ensures

pub returns : goal.returns
returns c = create-accepted _ _ _ _ c.of.ensures c.in_ok-create_outcome.ensures c.lowest_free-n.ensures c.create.ensures
