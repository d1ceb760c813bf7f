use Rattle.layout.specs.Layout.{order_bytes}
use Rattle.number.proofs.Puts.{put_none}
use Rattle.writers.proofs.Chains.{chains, put_fits, room_next}
use borrow.Author.Rules.{rules}
use Rattle.writers.proofs.write_order.Goals as goal

pub put_number-place-requires : goal.put_number-place-requires
unfolding order_bytes
put_number-place-requires c = search chains

pub loop-a-init : goal.loop-a-init
loop-a-init c = put_none

pub write_juniors-place-requires : goal.write_juniors-place-requires
unfolding order_bytes
write_juniors-place-requires c =
    let first = c.put_number-place.ensures in
    let loop = c.loop-a.invariant in
    (search rules, put_fits loop c.loop-a-test.true (room_next first c.requires))

pub loop-a-preserved : goal.loop-a-preserved
loop-a-preserved c = search chains

pub shape_of-out : goal.shape_of-out
shape_of-out c = search chains

pub returns : goal.returns
unfolding order_bytes
returns c = search chains
