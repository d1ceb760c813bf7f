use Prim.Native.Nat.{◌<◌, ◌≤◌}
use lib.Seq.{get_or-take}
use Rattle.layout.specs.Layout.{rows_bytes}
use Rattle.layout.proofs.Counts.{front_in, front-over}
use Rattle.number.proofs.Puts.{put_none}
use Rattle.writers.proofs.Chains.{chains, wrote_next, wrote_each, put_fits, put_wrote, room_next}
use borrow.Author.Rules.{rules}
use Rattle.writers.proofs.write_rows.Goals as goal

pub put_number-place-requires : goal.put_number-place-requires
unfolding rows_bytes
put_number-place-requires c = search chains

pub loop-row-init : goal.loop-row-init
loop-row-init c = put_none

pub write_row-place-requires : goal.write_row-place-requires
unfolding rows_bytes
write_row-place-requires c =
    let t = c.args.t in
    let next : c.loop-row.row-index < t.count = front_in t.rows c.loop-row-test.true in
    rw get_or-take (put_fits c.loop-row.invariant next (room_next c.put_number-place.ensures c.requires.1))

pub loop-row-preserved : goal.loop-row-preserved
loop-row-preserved c =
    let t = c.args.t in
    let next : c.loop-row.row-index < t.count = front_in t.rows c.loop-row-test.true in
    let ens = c.write_row-place.ensures in
    put_wrote c.loop-row.invariant next (rw get_or-take at ens)

pub shape_of-out : goal.shape_of-out
shape_of-out c = search chains

pub returns : goal.returns
unfolding rows_bytes
returns c =
    let t = c.args.t in
    let last : t.count ≤ c.loop-row.row-index = front-over t.rows (search rules) c.loop-row-test.false in
    wrote_next c.put_number-place.ensures (wrote_each c.loop-row.invariant last)
