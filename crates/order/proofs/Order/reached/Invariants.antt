use Prim.Native.Nat.{◌<◌, ◌^◌}
use Rattle.order.proofs.Loops.{Reaching}
use Rattle.order.proofs.Order.reached.Given as goal

abbrev pub invariant-loop-rest : goal.invariant-loop-rest
invariant-loop-rest l = (l.down < 2 ^ 64) × Reaching l.self.juniors l.set l.down l.rest

abbrev pub decreases-loop-rest : goal.decreases-loop-rest
decreases-loop-rest l = l.rest
