-- Assumes nothing.
use mathlib.Core.Path.{sym, ◌∙◌}
use native.Mathlib.Omega.{arith}
use Rattle.number.proofs.Runs.{err_step}
use Rattle.rows.specs.Rows.{range_at}
use Rattle.sections.proofs.Laws.{member_below}
use Rattle.std.proofs.Common.{rules}
use Rattle.rows.proofs.read_range.Goals as goal

pub returns-in_err-admin : goal.returns-in_err-admin
unfolding range_at
returns-in_err-admin c = let a = sym c.in_err-admin.ensures in err_step _ _ c.from_residual.ensures.1 ∙ sym (rw a)

pub returns-in_err-low : goal.returns-in_err-low
unfolding range_at
returns-in_err-low c =
    let a = sym c.in_ok-admin.ensures in
    let l = sym c.in_err-low.ensures in
    err_step _ _ c.from_residual-in_err-low.ensures.1 ∙ sym (rw (a, l))

pub returns-in_err-high : goal.returns-in_err-high
unfolding range_at
returns-in_err-high c =
    let a = sym c.in_ok-admin.ensures in
    let l = sym c.in_ok-low.ensures in
    let h = sym c.in_err-high.ensures in
    err_step _ _ c.from_residual-in_err-high.ensures.1 ∙ sym (rw (a, l, h))

pub overflow_cast-range : goal.overflow_cast-range
overflow_cast-range c = omega (arith, member_below _ _ _ (search rules) (sym c.in_ok-admin.ensures))

pub overflow_cast-range-2 : goal.overflow_cast-range-2
overflow_cast-range-2 c = omega (arith, member_below _ _ _ (search rules) (sym c.in_ok-low.ensures))

pub overflow_cast-range-3 : goal.overflow_cast-range-3
overflow_cast-range-3 c = omega (arith, member_below _ _ _ (search rules) (sym c.in_ok-high.ensures))

pub returns : goal.returns
unfolding range_at
returns c =
    let a = sym c.in_ok-admin.ensures in
    let l = sym c.in_ok-low.ensures in
    let h = sym c.in_ok-high.ensures in
    sym (rw (a, l, h))
