-- The loop keeps that the run from here gives what the run from the start gives. Assumes nothing.
use mathlib.Core.Path.{sym, ◌∙◌}
use Rattle.number.proofs.Runs.{err_step, begin, goes, stops, over}
use Rattle.sections.specs.Sections.{juniors_at}
use Rattle.sections.proofs.Laws.{junior_skip, junior_in, junior_not, order_none, order_not, order_over}
use Rattle.sections.proofs.read_order.Goals as goal
use Rattle.sections.proofs.read_order.Goals.{then-has+in_ok-x, else-has}

pub returns-in_err-used : goal.returns-in_err-used
returns-in_err-used c = err_step _ _ c.from_residual.ensures.1 ∙ sym (order_none _ _ _ (sym c.in_err-used.ensures))

pub loop-i-init : goal.loop-i-init
unfolding juniors_at
loop-i-init c = (sym c.in_ok-used.ensures, begin _ _)

pub returns-in_err-x : goal.returns-in_err-x
returns-in_err-x c =
    let inv = c.loop-i.invariant in
    let stopped = junior_not _ _ _ _ _ (sym c.has.ensures ∙ c.if-has.true) (sym c.in_err-x.ensures) in
    err_step _ _ c.from_residual-in_err-x.ensures.1 ∙ sym (order_not _ _ _ inv.0 (stops inv.1 c.loop-i-test.true stopped))

pub loop-i-preserved : goal.loop-i-preserved
loop-i-preserved c =
    let inv = c.loop-i.invariant in (
      inv.0,
      elim c.if-has.branch [
        | then-has+in_ok-x w ↦ rw (w.juniors-is, w.place-is)
            (goes inv.1 c.loop-i-test.true (junior_in _ _ _ _ _ (sym c.has.ensures ∙ w.if-has.true) (sym w.in_ok-x.ensures)))
        | else-has w ↦ rw (w.juniors-is, w.place-is) (goes inv.1 c.loop-i-test.true (junior_skip _ _ _ _ _ (sym c.has.ensures ∙ w.if-has.false)))
      ],
    )

pub returns : goal.returns
returns c =
    let inv = c.loop-i.invariant in
    sym (order_over _ _ _ inv.0 (over inv.1 c.loop-i-test.false))
