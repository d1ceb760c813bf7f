use Rattle.order.proofs.Loops.{Raising}
use Rattle.order.proofs.raise.Given as goal

abbrev pub invariant-loop-rest : goal.invariant-loop-rest
invariant-loop-rest l = Raising l.initial.above l.a l.row l.above l.rest

abbrev pub decreases-loop-rest : goal.decreases-loop-rest
decreases-loop-rest l = l.rest
