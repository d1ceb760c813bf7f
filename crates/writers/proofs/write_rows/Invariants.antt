use Rattle.layout.specs.Layout.{row_bytes}
use lib.ListN.{get_or}
use Rattle.policy.specs.Build.{empty_row}
use Rattle.number.proofs.Puts.{Putting}
use Rattle.writers.proofs.write_rows.Given as goal

abbrev pub invariant-loop-row : goal.invariant-loop-row
invariant-loop-row l =
    Putting (λ j. row_bytes l.assign (get_or l.fn.t.rows j empty_row)) l.fn.t.count l.initial.out l.initial.place l.row-index l.out l.place
