use native.Mathlib.Omega.{arith}
use Rattle.layout.specs.Layout.{tables_bytes, table_of}
use Rattle.writers.proofs.Chains.{chains, wrote_inside, wrote_rest, room_first}
use Rattle.writing.proofs.write_tables.Goals as goal

pub write_rows-assign-requires : goal.write_rows-assign-requires
unfolding tables_bytes table_of
write_rows-assign-requires c = search chains

pub slice_bounds-write_rows-count : goal.slice_bounds-write_rows-count
unfolding tables_bytes table_of
slice_bounds-write_rows-count c = search chains

pub slice_bounds-write_rows-start : goal.slice_bounds-write_rows-start
unfolding tables_bytes table_of
slice_bounds-write_rows-start c = search chains

pub write_rows-requires : goal.write_rows-requires
unfolding tables_bytes table_of
write_rows-requires c = search chains

pub overflow_add-revoke : goal.overflow_add-revoke
unfolding tables_bytes table_of
overflow_add-revoke c =
    let one = c.write_rows-assign.ensures in
    let two = wrote_rest one c.write_rows.ensures in
    omega (arith, wrote_inside two (room_first _ _ (room_first _ _ (room_first _ _ c.requires.1))), c.well_formed)

pub slice_bounds-write_rows-count-2 : goal.slice_bounds-write_rows-count-2
unfolding tables_bytes table_of
slice_bounds-write_rows-count-2 c = search chains

pub slice_bounds-write_rows-start-2 : goal.slice_bounds-write_rows-start-2
unfolding tables_bytes table_of
slice_bounds-write_rows-start-2 c = search chains

pub write_rows-requires-2 : goal.write_rows-requires-2
unfolding tables_bytes table_of
write_rows-requires-2 c = search chains

pub overflow_add-assignp : goal.overflow_add-assignp
unfolding tables_bytes table_of
overflow_add-assignp c =
    let one = c.write_rows-assign.ensures in
    let two = wrote_rest one c.write_rows.ensures in
    let three = wrote_rest two c.write_rows-2.ensures in
    omega (arith, wrote_inside three (room_first _ _ (room_first _ _ c.requires.1)), c.well_formed)

pub slice_bounds-write_rows-count-3 : goal.slice_bounds-write_rows-count-3
unfolding tables_bytes table_of
slice_bounds-write_rows-count-3 c = search chains

pub slice_bounds-write_rows-start-3 : goal.slice_bounds-write_rows-start-3
unfolding tables_bytes table_of
slice_bounds-write_rows-start-3 c = search chains

pub write_rows-requires-3 : goal.write_rows-requires-3
unfolding tables_bytes table_of
write_rows-requires-3 c = search chains

pub overflow_add-revokep : goal.overflow_add-revokep
unfolding tables_bytes table_of
overflow_add-revokep c =
    let one = c.write_rows-assign.ensures in
    let two = wrote_rest one c.write_rows.ensures in
    let three = wrote_rest two c.write_rows-2.ensures in
    let four = wrote_rest three c.write_rows-3.ensures in
    omega (arith, wrote_inside four (room_first _ _ c.requires.1), c.well_formed)

pub slice_bounds-write_ranges-count : goal.slice_bounds-write_ranges-count
unfolding tables_bytes table_of
slice_bounds-write_ranges-count c = search chains

pub slice_bounds-write_ranges-start : goal.slice_bounds-write_ranges-start
unfolding tables_bytes table_of
slice_bounds-write_ranges-start c = search chains

pub write_ranges-requires : goal.write_ranges-requires
unfolding tables_bytes table_of
write_ranges-requires c = search chains

pub overflow_add-result : goal.overflow_add-result
unfolding tables_bytes table_of
overflow_add-result c =
    let one = c.write_rows-assign.ensures in
    let two = wrote_rest one c.write_rows.ensures in
    let three = wrote_rest two c.write_rows-2.ensures in
    let four = wrote_rest three c.write_rows-3.ensures in
    let five = wrote_rest four c.write_ranges.ensures in
    omega (arith, wrote_inside five c.requires.1, c.well_formed)

pub shape_of-out : goal.shape_of-out
shape_of-out c = search chains

pub returns : goal.returns
unfolding tables_bytes table_of
returns c = search chains
