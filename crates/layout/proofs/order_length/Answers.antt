use native.Mathlib.Omega.{arith}
use Rattle.number.specs.Number.{num_bytes}
use Rattle.layout.specs.Layout.{order_bytes}
use Rattle.layout.proofs.Counts.{count_none, count_step, count_room, count-over}
use Rattle.layout.proofs.Lengths.{order_most}
use Rattle.layout.proofs.order_length.Goals as goal

pub loop-a-init : goal.loop-a-init
loop-a-init c = count_none

pub overflow_add-n : goal.overflow_add-n
unfolding order_bytes
overflow_add-n c =
    let o = c.args.o in
    omega (
      arith,
      count_room c.loop-a.invariant (num_bytes o.used) c.loop-a-test.true
          c.number_len-n.ensures c.juniors_length-n.ensures (order_most o),
    )

pub loop-a-preserved : goal.loop-a-preserved
loop-a-preserved c = count_step c.loop-a.invariant c.loop-a-test.true c.juniors_length-n.ensures

pub returns : goal.returns
unfolding order_bytes
returns c = count-over c.loop-a.invariant (num_bytes c.args.o.used) c.loop-a-test.false c.number_len-n.ensures
