use native.Mathlib.Omega.{arith}
use Rattle.number.specs.Number.{num_bytes}
use Rattle.layout.specs.Layout.{users_bytes}
use Rattle.layout.proofs.Counts.{count_none, count_step, count_room, count-over}
use Rattle.layout.proofs.Lengths.{users_most}
use Rattle.layout.proofs.users_length.Goals as goal

pub loop-i-init : goal.loop-i-init
loop-i-init c = count_none

pub overflow_add-n : goal.overflow_add-n
unfolding users_bytes
overflow_add-n c =
    let p = c.args.p in
    omega (
      arith,
      count_room c.loop-i.invariant (num_bytes p.users.count) c.loop-i-test.true
          c.number_len-n.ensures c.user_length-n.ensures (users_most p c.requires),
    )

pub loop-i-preserved : goal.loop-i-preserved
loop-i-preserved c = count_step c.loop-i.invariant c.loop-i-test.true c.user_length-n.ensures

pub returns : goal.returns
unfolding users_bytes
returns c = count-over c.loop-i.invariant (num_bytes c.args.p.users.count) c.loop-i-test.false c.number_len-n.ensures
