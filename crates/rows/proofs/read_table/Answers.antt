-- Assumes nothing.
use Rattle.std.proofs.Common.{rules}
use mathlib.Core.Path.{◌∙◌}
use Rattle.number.proofs.Runs.{err_step}
use Rattle.rows.specs.Rows.{table_row_at}
use Rattle.rows.proofs.Laws.{table-read}
use Rattle.rows.proofs.read_table.Goals as goal

pub returns-in_err-count : goal.returns-in_err-count
returns-in_err-count c =
    let a = c.args in
    let read = rw c.empty_table-table.ensures at (c.read_each.ensures (table_row_at a.s.now a.assign a.roles a.admins) (λ p r e. search rules)) in
    err_step _ _ c.from_residual.ensures.1 ∙ (rw c.in_err-count.was at (table-read _ _ _ _ _ c.read_each.result _ read))

pub returns : goal.returns
returns c =
    let a = c.args in
    let read = rw c.empty_table-table.ensures at (c.read_each.ensures (table_row_at a.s.now a.assign a.roles a.admins) (λ p r e. search rules)) in
    rw c.in_ok-count.was at (table-read _ _ _ _ _ c.read_each.result _ read)
