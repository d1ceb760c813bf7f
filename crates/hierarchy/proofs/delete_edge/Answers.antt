-- Assumes nothing.
use mathlib.Core.Path.{refl, sym}
use Rattle.std.proofs.lemmas.Result.{err_from_is_err_and}
use Rattle.hierarchy.specs.Rules.{site}
use Rattle.hierarchy.proofs.Accepted.{cut_fits}
use Rattle.hierarchy.proofs.Laws.{site_sound}
use Rattle.hierarchy.proofs.Answers.{cut-refused, cut-accepted}
use borrow.Author.Rules.{rules}
use Rattle.hierarchy.proofs.delete_edge.Goals as goal

pub of-requires : goal.of-requires
of-requires c = (c.requires.0.modify, λ e. site_sound c.args.p.now c.args.o refl (c.requires.1 e))

pub returns-in_err-cut_outcome : goal.returns-in_err-cut_outcome
returns-in_err-cut_outcome c =
    let given = err_from_is_err_and c.from_residual.result c.from_residual.ensures.1 in
    rw (given.1, given.2) (cut-refused _ _ _ _ c.of.ensures _ c.in_err-cut_outcome.ensures)

pub cut_edge-requires : goal.cut_edge-requires
unfolding site
cut_edge-requires c =
    let accepted = rw c.of.ensures at c.in_ok-cut_outcome.ensures in
    cut_fits (site c.args.p.now c.args.o) (search rules) _ _ (sym accepted)

pub returns : goal.returns
returns c = cut-accepted _ _ _ _ c.of.ensures c.in_ok-cut_outcome.ensures c.cut_edge.ensures
