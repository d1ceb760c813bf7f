-- Of a kind that is neither 5 nor 6 a row allows what both ends of an edge need.
-- Assumes nothing.
use borrow.Author.Tests.{ne_eqb}
use Rattle.hierarchy.specs.Rules.{row_allows, may_modify}
use Rattle.hierarchy.proofs.may_modify.Goals as goal

pub returns : goal.returns
unfolding may_modify row_allows
returns c = rw (ne_eqb _ _ c.if-kind-eq5.false, ne_eqb _ _ c.if-kind-eq6.false) c.may_modify-2.ensures
