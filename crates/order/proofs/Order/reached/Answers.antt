-- The loop takes the members of the set one by one, and adds the juniors of each.
-- Assumes nothing.
use native.Mathlib.Omega.{arith}
use Rattle.order.proofs.Loops.{reach_begin, reach_turn, reach_end, left_lowest, left_member}
use borrow.Author.Rules.{rules}
use Rattle.order.proofs.Order.reached.Goals as goal

pub loop-rest-init : goal.loop-rest-init
loop-rest-init c = (search rules, reach_begin _ _ (search rules))

pub offset_bounds-self-a : goal.offset_bounds-self-a
offset_bounds-self-a c = omega (arith, left_lowest 64 _ _ c.loop-rest.invariant.1.left (search rules) (search rules))

pub bounds-self-a : goal.bounds-self-a
bounds-self-a c = omega (arith, left_lowest 64 _ _ c.loop-rest.invariant.1.left (search rules) (search rules))

pub loop-rest-smaller : goal.loop-rest-smaller
loop-rest-smaller c = c.without_lowest-rest.ensures.0

pub loop-rest-preserved : goal.loop-rest-preserved
loop-rest-preserved c =
    let inv = c.loop-rest.invariant.1 in (
      search rules,
      reach_turn _ _ _ _ _ _ _ inv (search rules) (left_member 64 _ _ inv.left (search rules) (search rules))
          (rw c.lowest-a.ensures at c.union-down.ensures) c.without_lowest-rest.ensures.1,
    )

pub returns : goal.returns
returns c = reach_end _ _ _ _ c.loop-rest.invariant.1 c.loop-rest.invariant.0 c.loop-rest-test.false
