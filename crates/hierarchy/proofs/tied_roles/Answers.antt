-- Assumes nothing.
use Rattle.hierarchy.proofs.tied_roles.Goals.{then-is_tied, else-is_tied}
use Rattle.sets.proofs.Loops.{gather_begin, gather_take, gather_skip, gather_set}
use Rattle.hierarchy.proofs.tied_roles.Goals as goal

pub loop-a-init : goal.loop-a-init
loop-a-init c = gather_begin _

pub loop-a-preserved : goal.loop-a-preserved
loop-a-preserved c =
    let inv = c.loop-a.invariant in
    elim c.if-is_tied.branch [
      | then-is_tied w ↦ rw w.set-is (gather_take _ _ _ _ inv w.with-set.ensures (cc))
      | else-is_tied w ↦ rw w.set-is (gather_skip _ _ _ inv (cc))
    ]

pub returns : goal.returns
returns c = gather_set 64 _ _ _ c.loop-a.auto.a-end c.loop-a-test.false c.loop-a.invariant
