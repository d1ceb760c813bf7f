use Prim.Native.Nat.{◌<◌, ◌≤◌}
use lib.Seq.{get_or-take}
use Rattle.layout.specs.Layout.{permissions_bytes}
use Rattle.layout.proofs.Counts.{front_in, front-over}
use Rattle.number.proofs.Puts.{put_none}
use Rattle.writers.proofs.Chains.{chains, wrote_next, wrote_each, put_fits, put_wrote, room_next}
use borrow.Author.Rules.{rules}
use Rattle.writers.proofs.write_permissions.Goals as goal

pub put_number-place-requires : goal.put_number-place-requires
unfolding permissions_bytes
put_number-place-requires c = search chains

pub loop-roles-init : goal.loop-roles-init
loop-roles-init c = put_none

pub put_number-place-requires-in-loop-roles : goal.put_number-place-requires-in-loop-roles
unfolding permissions_bytes
put_number-place-requires-in-loop-roles c =
    let m = c.args.m in
    let next : c.loop-roles.roles-index < m.count = front_in m.roles c.loop-roles-test.true in
    rw get_or-take (put_fits c.loop-roles.invariant next (room_next c.put_number-place.ensures c.requires.1))

pub loop-roles-preserved : goal.loop-roles-preserved
loop-roles-preserved c =
    let m = c.args.m in
    let next : c.loop-roles.roles-index < m.count = front_in m.roles c.loop-roles-test.true in
    let ens = c.put_number-place-in-loop-roles.ensures in
    put_wrote c.loop-roles.invariant next (rw get_or-take at ens)

pub shape_of-out : goal.shape_of-out
shape_of-out c = search chains

pub returns : goal.returns
unfolding permissions_bytes
returns c =
    let m = c.args.m in
    let last : m.count ≤ c.loop-roles.roles-index = front-over m.roles (search rules) c.loop-roles-test.false in
    wrote_next c.put_number-place.ensures (wrote_each c.loop-roles.invariant last)
