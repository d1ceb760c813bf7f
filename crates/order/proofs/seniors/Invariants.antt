use Rattle.order.specs.Order.{senior}
use Rattle.sets.proofs.Loops.{Gathered}
use Rattle.order.proofs.seniors.Given as goal

abbrev pub invariant-loop-a : goal.invariant-loop-a
invariant-loop-a l = Gathered (λ x. senior l.juniors x l.b) l.set l.a
