use Rattle.layout.specs.Layout.{modify_bytes}
use Rattle.ranges.specs.Rows.{row_at}
use Rattle.number.proofs.Puts.{Putting}
use Rattle.writers.proofs.write_ranges.Given as goal

abbrev pub invariant-loop-row : goal.invariant-loop-row
invariant-loop-row l = Putting (λ j. modify_bytes (row_at l.fn.m.rows j)) l.fn.m.count l.initial.out l.initial.place l.row-index l.out l.place
