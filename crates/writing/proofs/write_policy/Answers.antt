-- Assumes nothing.
use native.Mathlib.Omega.{arith}
use Rattle.layout.specs.Layout.{policy_bytes}
use Rattle.layout.proofs.Lengths.{table_sizes}
use Rattle.writers.proofs.Chains.{wrote_long, wrote_inside, wrote_rest, room_first, room_rest, rest-inside}
use Rattle.writing.proofs.Outputs.{output_short, output_long, room_for}
use Rattle.writing.proofs.write_policy.Goals as goal

pub returns-then-is_short : goal.returns-then-is_short
returns-then-is_short c = output_short c.args.p _ c.is_short.ensures c.if-is_short.true

pub write_sections-at-requires : goal.write_sections-at-requires
unfolding policy_bytes
write_sections-at-requires c =
    let room = room_for c.args.p c.args.out.now c.is_short.ensures c.if-is_short.false in
    (c.requires.sizes.users, (c.requires.sizes.permissions, room_first _ _ room))

pub slice_bounds-write_tables-count : goal.slice_bounds-write_tables-count
unfolding policy_bytes
slice_bounds-write_tables-count c =
    let room = room_for c.args.p c.args.out.now c.is_short.ensures c.if-is_short.false in
    rest-inside c.write_sections-at.ensures _ room

pub slice_bounds-write_tables-start : goal.slice_bounds-write_tables-start
unfolding policy_bytes
slice_bounds-write_tables-start c =
    let room = room_for c.args.p c.args.out.now c.is_short.ensures c.if-is_short.false in
    rest-inside c.write_sections-at.ensures _ room

pub write_tables-requires : goal.write_tables-requires
unfolding policy_bytes
write_tables-requires c =
    let room = room_for c.args.p c.args.out.now c.is_short.ensures c.if-is_short.false in
    (table_sizes _ c.requires.sizes, room_rest c.write_sections-at.ensures room)

pub overflow_add-past : goal.overflow_add-past
unfolding policy_bytes
overflow_add-past c =
    let room = room_for c.args.p c.args.out.now c.is_short.ensures c.if-is_short.false in
    let wrote = wrote_rest c.write_sections-at.ensures c.write_tables.ensures in
    omega (arith, wrote_inside wrote room, c.well_formed)

pub shape_of-out : goal.shape_of-out
shape_of-out c = wrote_long (wrote_rest c.write_sections-at.ensures c.write_tables.ensures)

pub returns : goal.returns
unfolding policy_bytes
returns c =
    let wrote = wrote_rest c.write_sections-at.ensures c.write_tables.ensures in
    output_long c.args.p _ c.is_short.ensures c.if-is_short.false wrote
