use Prim.Native.Nat.{◌<◌, ◌≤◌}
use lib.Seq.{get_or-take}
use Rattle.layout.specs.Layout.{modify_bytes, ranges_bytes}
use Rattle.layout.proofs.Counts.{front_in, front-over}
use Rattle.number.proofs.Puts.{put_none}
use Rattle.writers.proofs.Chains.{chains, wrote_next, wrote_each, put_fits, put_wrote, room_next}
use borrow.Author.Rules.{rules}
use Rattle.writers.proofs.write_ranges.Goals as goal

pub put_number-place-requires : goal.put_number-place-requires
unfolding ranges_bytes
put_number-place-requires c = search chains

pub loop-row-init : goal.loop-row-init
loop-row-init c = put_none

pub write_ends-place-requires : goal.write_ends-place-requires
unfolding ranges_bytes modify_bytes
write_ends-place-requires c =
    let m = c.args.m in
    let next : c.loop-row.row-index < m.count = front_in m.rows c.loop-row-test.true in
    rw get_or-take (put_fits c.loop-row.invariant next (room_next c.put_number-place.ensures c.requires.1))

pub loop-row-preserved : goal.loop-row-preserved
unfolding modify_bytes
loop-row-preserved c =
    let m = c.args.m in
    let next : c.loop-row.row-index < m.count = front_in m.rows c.loop-row-test.true in
    let ens = c.write_ends-place.ensures in
    put_wrote c.loop-row.invariant next (rw get_or-take at ens)

pub shape_of-out : goal.shape_of-out
shape_of-out c = search chains

pub returns : goal.returns
unfolding ranges_bytes
returns c =
    let m = c.args.m in
    let last : m.count ≤ c.loop-row.row-index = front-over m.rows (search rules) c.loop-row-test.false in
    wrote_next c.put_number-place.ensures (wrote_each c.loop-row.invariant last)
