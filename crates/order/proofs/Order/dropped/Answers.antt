use native.Mathlib.Nat.{le_refl}
use native.Mathlib.Omega.{arith}
use lib.ListN.{length-set}
use Rattle.sets.proofs.Loops.{rewrite_begin, rewrite_turn}
use Rattle.order.specs.Order.{senior}
use borrow.Author.Rules.{rules}
use Rattle.order.proofs.Order.dropped.Goals as goal

pub loop-x-init : goal.loop-x-init
loop-x-init c = (search rules, rewrite_begin _ _)

pub loop-x-preserved : goal.loop-x-preserved
unfolding senior
loop-x-preserved c =
    let inv = c.loop-x.invariant in
    let ens = c.without.ensures in
    (simp length-set inv.0, rewrite_turn _ _ _ _ _ (omega arith) inv.1 (rw (inv.1.rest _ (le_refl _)) at ens))

pub returns : goal.returns
unfolding senior
returns c = record { pair = λ x y l. c.loop-x.invariant.1.done x (omega arith) y }
