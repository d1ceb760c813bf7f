use Rattle.layout.specs.Layout.{row_bytes}
use Rattle.layout.proofs.Lengths.{condition_in, condition_out}
use Rattle.writers.proofs.Chains.{chains, wrote_as, wrote_none, wrote_next, room_first, room_next, room_as}
use Rattle.writers.proofs.write_row.Goals as goal

pub write_ends-a-requires : goal.write_ends-a-requires
unfolding row_bytes
write_ends-a-requires c = search chains

pub put_number-b-requires : goal.put_number-b-requires
unfolding row_bytes
put_number-b-requires c = search chains

pub shape_of-out-else-assign : goal.shape_of-out-else-assign
shape_of-out-else-assign c = search chains

pub returns-else-assign : goal.returns-else-assign
unfolding row_bytes
returns-else-assign c =
    let two = wrote_next c.write_ends-a.ensures c.put_number-b.ensures in
    wrote_next two (wrote_as (condition_out _ _ c.if-assign.false) (wrote_none _ _))

pub put_number-c-requires : goal.put_number-c-requires
unfolding row_bytes
put_number-c-requires c =
    let two = wrote_next c.write_ends-a.ensures c.put_number-b.ensures in
    let sets = condition_in _ _ c.if-assign.true in
    room_first _ _ (room_as sets (room_next two c.requires))

pub put_number-requires : goal.put_number-requires
unfolding row_bytes
put_number-requires c =
    let two = wrote_next c.write_ends-a.ensures c.put_number-b.ensures in
    let sets = condition_in _ _ c.if-assign.true in
    room_next c.put_number-c.ensures (room_as sets (room_next two c.requires))

pub shape_of-out-then-assign : goal.shape_of-out-then-assign
shape_of-out-then-assign c = search chains

pub returns-then-assign : goal.returns-then-assign
unfolding row_bytes
returns-then-assign c =
    let two = wrote_next c.write_ends-a.ensures c.put_number-b.ensures in
    let sets = condition_in _ _ c.if-assign.true in
    wrote_next two (wrote_as sets (wrote_next c.put_number-c.ensures c.put_number.ensures))
