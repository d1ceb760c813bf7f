-- The loop's invariant: the sets before i are the ranges of the rows there.
-- Assumes nothing.
use native.Mathlib.Omega.{arith}
use lib.ListN.{length-set}
use Rattle.sets.proofs.Loops.{rewrite_begin, rewrite_turn}
use borrow.Author.Rules.{rules}
use Rattle.ranges.proofs.Ranking.range_sets.Goals as goal

pub loop-i-init : goal.loop-i-init
loop-i-init c = (search rules, rewrite_begin _ _)

pub loop-i-preserved : goal.loop-i-preserved
loop-i-preserved c =
    let inv = c.loop-i.invariant in
    (simp length-set inv.0, rewrite_turn _ _ _ _ _ (omega (arith, c.requires)) inv.1 c.range_set.ensures)

pub returns : goal.returns
returns c = record { ranges = λ i l. c.loop-i.invariant.1.done i (omega arith) }
