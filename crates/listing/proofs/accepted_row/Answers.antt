-- Assumes nothing.
use mathlib.Core.Path.{sym, ap, ◌∙◌}
use Prim.Native.Nat.{ℕ}
use Rattle.listing.proofs.accepted_row.Goals.{then-is_ok, else-is_ok}
use lib.Dec.{eqb}
use borrow.Author.Tests.{eqb-true}
use Rattle.order.proofs.Loops.{left_lowest}
use Rattle.policy.proofs.Changes.{outcome-is_ok}
use Rattle.listing.specs.Sites.{site_set}
use Rattle.listing.proofs.Sifted.{sift_begin, sift_take, sift_skip, sift_end}
use borrow.Author.Rules.{rules}
use Rattle.listing.proofs.accepted_row.Goals as goal

pub loop-rest-init : goal.loop-rest-init
loop-rest-init c = sift_begin _ _

pub with-row-requires : goal.with-row-requires
with-row-requires c = rw c.lowest-b.ensures (left_lowest 64 _ _ c.loop-rest.invariant.left (search rules) (search rules))

pub loop-rest-smaller : goal.loop-rest-smaller
loop-rest-smaller c = c.without_lowest-rest.ensures.0

pub loop-rest-preserved : goal.loop-rest-preserved
loop-rest-preserved c =
    let inv = c.loop-rest.invariant in
    let low = c.lowest-b.ensures in
    let e = rw (c.kind_at-kind.ensures, low) at c.site_outcome-outcome.ensures in
    let tested = ap (λ (n : ℕ). eqb n 0) (sym e) ∙ outcome-is_ok _ ∙ sym c.is_ok.ensures.value in
    let taken = c.without_lowest-rest.ensures.1 in
    elim c.if-is_ok.branch [
      | then-is_ok w ↦ rw w.row-is (sift_take _ _ _ _ _ _ inv taken _ (rw low at w.with-row.ensures) (tested ∙ w.if-is_ok.true))
      | else-is_ok w ↦ rw w.row-is (sift_skip _ _ _ _ _ _ inv taken (tested ∙ w.if-is_ok.false))
    ]

pub returns : goal.returns
unfolding site_set
returns c =
    let tried = rw c.kind_at-kind.ensures at c.to_do-rest.ensures in
    sift_end 64 _ _ _ _ c.loop-rest.invariant c.loop-rest-test.false (λ n t. tried.each c.args.tied n (eqb-true _ 0 t)) (search rules)
