-- Assumes nothing.
use mathlib.Core.Path.{◌∙◌, sym, ap}
use native.Mathlib.Omega.{arith}
use Rattle.parts.specs.Parts.{part_at, as_part, start_of, end_of}
use Rattle.parts.proofs.Laws.{part_stops, named, file_inside}
use Rattle.parts.proofs.find_part.Goals as goal

pub returns-in_err-table : goal.returns-in_err-table
unfolding part_at
returns-in_err-table c =
    let e = c.in_err-table.ensures in
    part_stops _ _ c.from_residual.ensures.1 ∙ rw (e.0, e.1)

pub returns-in_err-read_file : goal.returns-in_err-read_file
unfolding part_at
returns-in_err-read_file c =
    part_stops _ _ c.from_residual-in_err-read_file.ensures.1 ∙ rw (named _ c.in_ok-table.ensures, c.in_err-read_file.ensures)

pub overflow_sub-result : goal.overflow_sub-result
overflow_sub-result c =
    let e = c.ends_of-start.ensures in
    let i = (file_inside c.args.number c.in_ok-read_file.ensures.1).some in
    rw (e, c.in_ok-table.ensures) (omega (arith, i))

pub returns : goal.returns
unfolding part_at
returns c =
    let n = c.in_ok-table.ensures in
    let e = rw n at c.ends_of-start.ensures in
    let t = named _ n in
    let w = c.in_ok-read_file.ensures.1 in
    rw (e, t, w)
