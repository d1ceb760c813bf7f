use Rattle.layout.proofs.Counts.{Counting}
use lib.ListN.{get_or}
use Rattle.policy.specs.Build.{empty_row}
use Rattle.layout.specs.Layout.{row_bytes}
use Rattle.layout.proofs.rows_length.Given as goal

abbrev pub invariant-loop-row : goal.invariant-loop-row
invariant-loop-row l = Counting (λ j. row_bytes l.assign (get_or l.fn.t.rows j empty_row)) l.fn.t.count l.initial.n l.row-index l.n
