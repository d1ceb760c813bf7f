use Rattle.order.proofs.seniors.Goals.{then-is_senior, else-is_senior}
use Rattle.sets.proofs.Loops.{gather_begin, gather_take, gather_skip, gather_end}
use Rattle.order.proofs.Lists.{senior_past}
use Rattle.order.proofs.seniors.Goals as goal

pub loop-a-init : goal.loop-a-init
loop-a-init c = gather_begin _

pub loop-a-preserved : goal.loop-a-preserved
loop-a-preserved c =
    let inv = c.loop-a.invariant in
    elim c.if-is_senior.branch [
      | then-is_senior w ↦ rw w.set-is (gather_take _ _ _ _ inv w.with-set.ensures (cc))
      | else-is_senior w ↦ rw w.set-is (gather_skip _ _ _ inv (cc))
    ]

pub returns : goal.returns
returns c = gather_end _ _ _ _ c.loop-a-test.false (senior_past c.args.juniors.now c.args.b) c.loop-a.invariant
