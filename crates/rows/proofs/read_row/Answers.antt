-- Assumes nothing.
use mathlib.Core.Path.{sym, ◌∙◌}
use native.Mathlib.Omega.{arith}
use Rattle.number.proofs.Runs.{err_step}
use Rattle.rows.specs.Rows.{condition_at, table_row_at}
use Rattle.sections.proofs.Laws.{count_most}
use Rattle.rows.proofs.read_row.Goals as goal

pub returns-in_err-range : goal.returns-in_err-range
unfolding table_row_at
returns-in_err-range c = let r = sym c.in_err-range.ensures in err_step _ _ c.from_residual.ensures.1 ∙ sym (rw r)

pub returns-in_err-brackets : goal.returns-in_err-brackets
unfolding table_row_at
returns-in_err-brackets c =
    let r = sym c.in_ok-range.ensures in
    let b = sym c.in_err-brackets.ensures in
    err_step _ _ c.from_residual-in_err-brackets.ensures.1 ∙ sym (rw (r, b))

pub make_row-requires : goal.make_row-requires
make_row-requires c = omega (arith, count_most _ _ _ (sym c.in_ok-brackets.ensures))

pub returns-then-not-assign : goal.returns-then-not-assign
unfolding table_row_at
returns-then-not-assign c =
    let r = sym c.in_ok-range.ensures in
    let b = sym c.in_ok-brackets.ensures in
    rw (r, b, c.if-not-assign.true, c.make_row.ensures)

pub returns-in_err-needed : goal.returns-in_err-needed
unfolding table_row_at condition_at
returns-in_err-needed c =
    let r = sym c.in_ok-range.ensures in
    let b = sym c.in_ok-brackets.ensures in
    let n = sym c.in_err-needed.ensures in
    err_step _ _ c.from_residual-in_err-needed.ensures.1 ∙ sym (rw (r, b, c.if-not-assign.false, n))

pub returns-in_err-barred : goal.returns-in_err-barred
unfolding table_row_at condition_at
returns-in_err-barred c =
    let r = sym c.in_ok-range.ensures in
    let b = sym c.in_ok-brackets.ensures in
    let n = sym c.in_ok-needed.ensures in
    let z = sym c.in_err-barred.ensures in
    err_step _ _ c.from_residual-in_err-barred.ensures.1 ∙ sym (rw (r, b, c.if-not-assign.false, n, z))

pub make_row-requires-2 : goal.make_row-requires-2
make_row-requires-2 c = omega (arith, count_most _ _ _ (sym c.in_ok-brackets.ensures))

pub returns : goal.returns
unfolding table_row_at condition_at
returns c =
    let r = sym c.in_ok-range.ensures in
    let b = sym c.in_ok-brackets.ensures in
    let n = sym c.in_ok-needed.ensures in
    let z = sym c.in_ok-barred.ensures in
    rw (r, b, c.if-not-assign.false, n, z, c.make_row-2.ensures)
