-- The loop takes the members of the row one by one, and a joins the seniors of each.
-- Assumes nothing.
use native.Mathlib.Omega.{arith}
use Rattle.order.proofs.Loops.{raise_begin, raise_turn, raise_end, left_lowest, left_member}
use borrow.Author.Rules.{rules}
use Rattle.order.proofs.raise.Goals as goal

pub loop-rest-init : goal.loop-rest-init
loop-rest-init c = raise_begin _ _ _ (search rules)

pub offset_bounds-above-b : goal.offset_bounds-above-b
offset_bounds-above-b c =
    let inv = c.loop-rest.invariant in
    omega (arith, left_lowest 64 _ _ inv.left (search rules) (search rules))

pub bounds-above-b : goal.bounds-above-b
bounds-above-b c =
    let inv = c.loop-rest.invariant in
    omega (arith, inv.long, left_lowest 64 _ _ inv.left (search rules) (search rules))

pub offset_bounds-above-b-in-loop-rest : goal.offset_bounds-above-b-in-loop-rest
offset_bounds-above-b-in-loop-rest c =
    let inv = c.loop-rest.invariant in
    omega (arith, left_lowest 64 _ _ inv.left (search rules) (search rules))

pub bounds-above-b-in-loop-rest : goal.bounds-above-b-in-loop-rest
bounds-above-b-in-loop-rest c =
    let inv = c.loop-rest.invariant in
    omega (arith, inv.long, left_lowest 64 _ _ inv.left (search rules) (search rules))

pub loop-rest-smaller : goal.loop-rest-smaller
loop-rest-smaller c = c.without_lowest-rest.ensures.0

pub loop-rest-preserved : goal.loop-rest-preserved
loop-rest-preserved c =
    let inv = c.loop-rest.invariant in
    let e = c.lowest-b.ensures in
    rw e (raise_turn _ _ _ _ _ _ _ _ inv (search rules) (left_member 64 _ _ inv.left (search rules) (search rules))
    (rw e at c.with.ensures) c.without_lowest-rest.ensures.1)

pub returns : goal.returns
returns c = raise_end _ _ _ _ _ c.loop-rest.invariant c.loop-rest-test.false
