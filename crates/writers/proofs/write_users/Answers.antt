use Rattle.layout.specs.Layout.{users_bytes}
use Rattle.number.proofs.Puts.{put_none}
use Rattle.writers.proofs.Chains.{chains, put_fits, room_next}
use Rattle.writers.proofs.write_users.Goals as goal

pub put_number-place-requires : goal.put_number-place-requires
unfolding users_bytes
put_number-place-requires c = search chains

pub loop-i-init : goal.loop-i-init
loop-i-init c = put_none

pub write_user-place-requires : goal.write_user-place-requires
unfolding users_bytes
write_user-place-requires c =
    let first = c.put_number-place.ensures in
    let loop = c.loop-i.invariant in
    put_fits loop c.loop-i-test.true (room_next first c.requires.1)

pub loop-i-preserved : goal.loop-i-preserved
loop-i-preserved c = search chains

pub shape_of-out : goal.shape_of-out
shape_of-out c = search chains

pub returns : goal.returns
unfolding users_bytes
returns c = search chains
