-- Assumes nothing.
use Rattle.std.proofs.Common.{rules}
use mathlib.Core.Path.{◌∙◌}
use Rattle.number.proofs.Runs.{err_step}
use Rattle.sections.proofs.Laws.{set_item, as_item, members-read}
use Rattle.sections.proofs.read_members.Goals as goal

pub returns-in_err-count : goal.returns-in_err-count
returns-in_err-count c =
    let read = c.read_each.ensures (set_item c.args.s.now c.args.roles) (λ p r e. as_item _ _ r p (search rules)) in
    err_step _ _ c.from_residual.ensures.1 ∙ (rw c.in_err-count.was at (members-read _ _ _ c.read_each.result _ read))

pub returns : goal.returns
returns c =
    let read = c.read_each.ensures (set_item c.args.s.now c.args.roles) (λ p r e. as_item _ _ r p (search rules)) in
    rw c.in_ok-count.was at (members-read _ _ _ c.read_each.result _ read)
