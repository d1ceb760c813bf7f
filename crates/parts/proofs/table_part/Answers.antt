-- Assumes nothing.
use mathlib.Core.Path.{sym, ◌∙◌}
use native.Mathlib.Omega.{arith}
use Rattle.parts.specs.Parts.{part_bytes}
use Rattle.parts.proofs.Laws.{found_inside, nothing_found}
use Rattle.parts.proofs.table_part.Goals as goal

pub overflow_add-result : goal.overflow_add-result
overflow_add-result c = omega (arith, found_inside _ _ (sym c.in-Ok.ensures))

pub slice_bounds-result-end : goal.slice_bounds-result-end
slice_bounds-result-end c = omega (arith, found_inside _ _ (sym c.in-Ok.ensures))

pub returns-in-Ok : goal.returns-in-Ok
unfolding part_bytes
returns-in-Ok c = let w = sym c.in-Ok.ensures in rw w

pub returns-in-Err : goal.returns-in-Err
unfolding part_bytes
returns-in-Err c = let w = sym c.in-Err.ensures in rw w (nothing_found _ _)
