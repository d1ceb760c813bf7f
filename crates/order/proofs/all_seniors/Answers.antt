-- The loop takes the roles one by one, and each joins the seniors of its juniors: above has the seniors that stand among the first a rows.
-- Assumes nothing.
use native.Mathlib.Omega.{arith}
use Rattle.order.proofs.Loops.{above_none, above_turn, above_end}
use Rattle.order.proofs.all_seniors.Goals as goal

pub loop-a-init : goal.loop-a-init
loop-a-init c = above_none 64 c.args.juniors.now

pub loop-a-preserved : goal.loop-a-preserved
loop-a-preserved c =
    let js = c.args.juniors.now in
    above_turn js _ _ _ c.loop-a.invariant c.raise.ensures

pub returns : goal.returns
returns c = above_end _ _ c.loop-a.a (omega arith) c.loop-a.invariant
