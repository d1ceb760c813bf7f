use mathlib.Core.Path.{sym, ◌∙◌}
use native.Mathlib.Omega.{arith}
use borrow.Author.Tests.{leb-true, leb-false}
use Rattle.number.proofs.Values.{byte_inside}
use Rattle.number.proofs.Reader.{reading_start, reading_room, reading_low, reading_more, reading_last, reading_tenth}
use Rattle.number.proofs.read_groups.Goals as goal

pub loop-n-init : goal.loop-n-init
loop-n-init c = reading_start _ _

pub bounds-s-last : goal.bounds-s-last
bounds-s-last c = byte_inside c.args.s.now c.loop-n.last (omega (arith, leb-true 128 _ (sym c.is_continued.ensures ∙ c.if-not-is_continued.false)))

pub overflow_mul-value : goal.overflow_mul-value
overflow_mul-value c =
    omega
    (arith, reading_room c.loop-n.invariant c.loop-n-test.true, reading_low c.loop-n.invariant c.loop-n-test.true c.from.result)

pub overflow_add-value : goal.overflow_add-value
overflow_add-value c =
    omega
    (arith, reading_room c.loop-n.invariant c.loop-n-test.true, reading_low c.loop-n.invariant c.loop-n-test.true c.from.result)

pub overflow_mul-scale : goal.overflow_mul-scale
overflow_mul-scale c = omega (arith, reading_room c.loop-n.invariant c.loop-n-test.true)

pub overflow_add-last : goal.overflow_add-last
overflow_add-last c = omega (arith, byte_inside c.args.s.now c.loop-n.last (omega (arith, leb-true 128 _ (sym c.is_continued.ensures ∙ c.if-not-is_continued.false))))

pub loop-n-preserved : goal.loop-n-preserved
loop-n-preserved c =
    let e = c.from.ensures in
    reading_more c.loop-n.invariant c.loop-n-test.true e (omega (arith, e, leb-true 128 _ (sym c.is_continued.ensures ∙ c.if-not-is_continued.false)))

pub returns-then-not-is_continued : goal.returns-then-not-is_continued
returns-then-not-is_continued c = reading_last c.loop-n.invariant c.loop-n-test.true (leb-false 128 _ (sym c.is_continued.ensures ∙ c.if-not-is_continued.true))

pub returns-after-loop-n : goal.returns-after-loop-n
returns-after-loop-n c = reading_tenth c.loop-n.invariant c.loop-n-test.false
