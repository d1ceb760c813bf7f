use Prim.Native.Nat.{◌<◌}
use native.Mathlib.Omega.{arith}
use lib.Seq.{get_or-take}
use Rattle.number.specs.Number.{num_bytes}
use Rattle.layout.proofs.Counts.{count_none, count_step, count_room, count-over, front_in, front-over}
use Rattle.layout.proofs.Lengths.{rows_most}
use Rattle.layout.specs.Layout.{rows_bytes}
use borrow.Author.Rules.{rules}
use Rattle.layout.proofs.rows_length.Goals as goal

pub loop-row-init : goal.loop-row-init
loop-row-init c = count_none

pub overflow_add-n : goal.overflow_add-n
unfolding rows_bytes
overflow_add-n c =
    let t = c.args.t in
    let next : c.loop-row.row-index < t.count = front_in t.rows c.loop-row-test.true in
    let ens = c.row_length-n.ensures in
    let this = rw get_or-take at ens in
    omega (
      arith,
      count_room c.loop-row.invariant (num_bytes t.count) next c.number_len-n.ensures this (rows_most c.args.assign t c.requires),
    )

pub loop-row-preserved : goal.loop-row-preserved
loop-row-preserved c =
    let t = c.args.t in
    let next : c.loop-row.row-index < t.count = front_in t.rows c.loop-row-test.true in
    let ens = c.row_length-n.ensures in
    count_step c.loop-row.invariant next (rw get_or-take at ens)

pub returns : goal.returns
unfolding rows_bytes
returns c =
    let t = c.args.t in
    count-over c.loop-row.invariant (num_bytes t.count) (front-over t.rows (search rules) c.loop-row-test.false) c.number_len-n.ensures
