-- The loop keeps that the run from here gives what the run from the start gives. Assumes nothing.
use mathlib.Core.Path.{sym, ◌∙◌}
use Rattle.number.proofs.Runs.{err_step, begin, goes, stops, over}
use Rattle.sections.proofs.Laws.{count_most, user_not, user_not_2, user_in, people_none, people-run}
use Rattle.sections.proofs.read_people.Goals as goal

pub returns-in_err-most : goal.returns-in_err-most
returns-in_err-most c = err_step _ _ c.from_residual.ensures.1 ∙ sym (people_none _ _ _ _ (sym c.in_err-most.ensures))

pub loop-i-init : goal.loop-i-init
loop-i-init c =
    let e = sym c.in_ok-most.ensures in
    (count_most _ _ _ e, rw (people-run _ _ _ _ e) (begin _ _))

pub returns-in_err-x : goal.returns-in_err-x
returns-in_err-x c =
    let stopped = user_not _ _ _ _ _ _ (sym c.in_err-x.ensures) in
    err_step _ _ c.from_residual-in_err-x.ensures.1 ∙ sym (stops c.loop-i.invariant.1 c.loop-i-test.true stopped)

pub returns-in_err-y : goal.returns-in_err-y
returns-in_err-y c =
    let stopped = user_not_2 _ _ _ _ _ _ (sym c.in_ok-x.ensures) (sym c.in_err-y.ensures) in
    err_step _ _ c.from_residual-in_err-y.ensures.1 ∙ sym (stops c.loop-i.invariant.1 c.loop-i-test.true stopped)

pub loop-i-preserved : goal.loop-i-preserved
loop-i-preserved c =
    let inv = c.loop-i.invariant in
    (inv.0, goes inv.1 c.loop-i-test.true (user_in _ _ _ _ _ _ (sym c.in_ok-x.ensures) (sym c.in_ok-y.ensures)))

pub returns : goal.returns
returns c = sym (over c.loop-i.invariant.1 c.loop-i-test.false)
