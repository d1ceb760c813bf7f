-- Assumes nothing.
use Rattle.std.proofs.Common.{rules}
use mathlib.Core.Path.{◌∙◌}
use Rattle.number.proofs.Runs.{err_step}
use Rattle.rows.specs.Rows.{range_at}
use Rattle.rows.proofs.Laws.{ranges-read}
use Rattle.rows.proofs.read_ranges.Goals as goal

pub returns-in_err-count : goal.returns-in_err-count
returns-in_err-count c =
    let read = rw c.empty_ranges-ranges.ensures at (c.read_each.ensures (range_at c.args.s.now c.args.roles c.args.admins) (λ p r e. search rules)) in
    err_step _ _ c.from_residual.ensures.1 ∙ (rw c.in_err-count.was at (ranges-read _ _ _ _ c.read_each.result _ read))

pub returns : goal.returns
returns c =
    let read = rw c.empty_ranges-ranges.ensures at (c.read_each.ensures (range_at c.args.s.now c.args.roles c.args.admins) (λ p r e. search rules)) in
    rw c.in_ok-count.was at (ranges-read _ _ _ _ c.read_each.result _ read)
