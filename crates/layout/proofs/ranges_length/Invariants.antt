use Rattle.layout.proofs.Counts.{Counting}
use Rattle.ranges.specs.Rows.{row_at}
use Rattle.layout.specs.Layout.{modify_bytes}
use Rattle.layout.proofs.ranges_length.Given as goal

abbrev pub invariant-loop-row : goal.invariant-loop-row
invariant-loop-row l = Counting (λ j. modify_bytes (row_at l.fn.m.rows j)) l.fn.m.count l.initial.n l.row-index l.n
