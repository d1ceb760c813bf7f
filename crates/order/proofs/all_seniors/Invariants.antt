use lib.ListN.{take}
use Rattle.order.specs.Rows.{Above}
use Rattle.order.proofs.all_seniors.Given as goal

abbrev pub invariant-loop-a : goal.invariant-loop-a
invariant-loop-a l = Above (take l.a l.juniors) l.above
