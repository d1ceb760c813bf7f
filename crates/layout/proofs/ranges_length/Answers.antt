use Prim.Native.Nat.{◌<◌}
use native.Mathlib.Omega.{arith}
use lib.Seq.{get_or-take}
use Rattle.number.specs.Number.{num_bytes}
use Rattle.layout.proofs.Counts.{count_none, count_step, count_room, count-over, front_in, front-over}
use Rattle.layout.proofs.Lengths.{ranges_most}
use Rattle.layout.specs.Layout.{modify_bytes, ranges_bytes}
use borrow.Author.Rules.{rules}
use Rattle.layout.proofs.ranges_length.Goals as goal

pub loop-row-init : goal.loop-row-init
loop-row-init c = count_none

pub overflow_add-n : goal.overflow_add-n
unfolding ranges_bytes modify_bytes
overflow_add-n c =
    let m = c.args.m in
    let next : c.loop-row.row-index < m.count = front_in m.rows c.loop-row-test.true in
    let ens = c.ends_length-n.ensures in
    let this = rw get_or-take at ens in
    omega (
      arith,
      count_room c.loop-row.invariant (num_bytes m.count) next c.number_len-n.ensures this (ranges_most m c.requires),
    )

pub loop-row-preserved : goal.loop-row-preserved
unfolding modify_bytes
loop-row-preserved c =
    let m = c.args.m in
    let next : c.loop-row.row-index < m.count = front_in m.rows c.loop-row-test.true in
    let ens = c.ends_length-n.ensures in
    count_step c.loop-row.invariant next (rw get_or-take at ens)

pub returns : goal.returns
unfolding ranges_bytes modify_bytes
returns c =
    let m = c.args.m in
    count-over c.loop-row.invariant (num_bytes m.count) (front-over m.rows (search rules) c.loop-row-test.false) c.number_len-n.ensures
