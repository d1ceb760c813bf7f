use mathlib.Core.Path.{sym, ◌∙◌}
use native.Mathlib.Nat.{le_refl}
use native.Mathlib.Omega.{arith}
use Rattle.order.proofs.Order.spread.Goals.{then-is_at_least, else-is_at_least}
use lib.ListN.{length-set}
use Rattle.sets.specs.Tests.{◌and◌}
use Rattle.sets.proofs.Tests.{or_false}
use Rattle.sets.proofs.Loops.{rewrite_begin, rewrite_turn, rewrite_skip}
use Rattle.order.specs.Order.{senior}
use borrow.Author.Rules.{rules}
use Rattle.order.proofs.Order.spread.Goals as goal

pub loop-x-init : goal.loop-x-init
loop-x-init c = (search rules, rewrite_begin _ _)

pub loop-x-preserved : goal.loop-x-preserved
unfolding ◌and◌ senior
loop-x-preserved c =
    let inv = c.loop-x.invariant in
    let row = inv.1.rest _ (le_refl _) in
    elim c.if-is_at_least.branch [
      | then-is_at_least w ↦
          let ens = w.union.ensures in
          let more = rw row at ens in
          rw w.next-is (
            simp length-set inv.0,
            rewrite_turn _ _ _ _ _ (omega arith) inv.1
                (λ y. more y ∙ rw (sym c.is_at_least.ensures ∙ w.if-is_at_least.true)),
          )
      | else-is_at_least w ↦
          rw w.next-is (inv.0, rewrite_skip _ _ _ _ inv.1 (λ y. rw (sym c.is_at_least.ensures ∙ w.if-is_at_least.false) (sym (or_false _))))
    ]

pub returns : goal.returns
unfolding senior
returns c = record { pair = λ x y l. c.loop-x.invariant.1.done x (omega arith) y }
