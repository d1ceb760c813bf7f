-- The loop keeps that the run from here gives what the run from the start gives. Assumes nothing.
use Rattle.std.proofs.Common.{rules, Ok, ◌<◌, length}
use mathlib.Core.Path.{sym}
use native.Mathlib.Omega.{arith}
use Rattle.number.proofs.Runs.{err_step, begin, goes, stops, over}
use Rattle.sections.proofs.Each.{put_not, put_in, each_none, each_not, each_over}
use Rattle.sections.proofs.Laws.{count_most}
use Rattle.sections.proofs.read_each.Goals as goal

pub returns-in_err-most : goal.returns-in_err-most
returns-in_err-most g c item answers =
    rw (err_step _ _ c.from_residual.ensures.1) (sym (each_none item _ _ _ (sym c.in_err-most.ensures)))

pub loop-i-init : goal.loop-i-init
loop-i-init g c = record { counted = sym c.in_ok-most.ensures; going = λ item answers. begin _ _ }

pub returns-in_err-thing : goal.returns-in_err-thing
returns-in_err-thing g c item answers =
    let inv = c.loop-i.invariant in
    let stopped = put_not item _ _ _ (sym (answers _ _ c.in_err-thing.ensures)) in
    rw (err_step _ _ c.from_residual-in_err-thing.ensures.1)
    (sym (each_not item _ _ _ inv.counted (stops (inv.going item answers) c.loop-i-test.true stopped)))

pub offset_bounds-things-i : goal.offset_bounds-things-i
offset_bounds-things-i g c =
    let inside : c.loop-i.i < length c.loop-i.things = omega (arith, count_most _ _ _ c.loop-i.invariant.counted) in
    search rules

pub bounds-things-i : goal.bounds-things-i
bounds-things-i g c = omega (arith, count_most _ _ _ c.loop-i.invariant.counted)

pub loop-i-preserved : goal.loop-i-preserved
loop-i-preserved g c =
    let inv = c.loop-i.invariant in
    record {
      counted = inv.counted;
      going = λ item answers.
          let read = answers c.loop-i.place (Ok (c.in_ok-thing.thing, c.in_ok-thing.past)) c.in_ok-thing.ensures in
          goes (inv.going item answers) c.loop-i-test.true (put_in item c.loop-i.i c.loop-i.place c.loop-i.things (sym read));
    }

pub returns : goal.returns
returns g c item answers =
    let inv = c.loop-i.invariant in
    sym (each_over item _ _ _ inv.counted (over (inv.going item answers) c.loop-i-test.false))
