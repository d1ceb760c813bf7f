use mathlib.Core.Path.{sym, ◌∙◌}
use Rattle.listing.proofs.put_entries.Goals.{then-has, else-has}
use native.Mathlib.Omega.{arith}
use Rattle.listing.specs.Listing.{in_rows, entries_of}
use Rattle.number.proofs.Puts.{put_none, put_over}
use Rattle.listing.proofs.Laws.{put_fits, put_one, put_skip}
use Rattle.listing.proofs.put_entries.Goals as goal

pub loop-i-init : goal.loop-i-init
loop-i-init c = put_none

pub put_entry-requires : goal.put_entry-requires
unfolding in_rows
put_entry-requires c =
    put_fits c.args.rows.now _ _ _ _ c.loop-i.invariant c.loop-i-test.true c.requires
    (sym c.has.ensures ∙ c.if-has.true)

pub overflow_add-at : goal.overflow_add-at
unfolding in_rows
overflow_add-at c =
    let k = c.loop-i.invariant in
    let passes = sym c.has.ensures ∙ c.if-has.true in
    omega (arith, k.long, (put_fits c.args.rows.now _ _ _ _ k c.loop-i-test.true c.requires passes).0)

pub loop-i-preserved : goal.loop-i-preserved
unfolding in_rows
loop-i-preserved c =
    let x = c.args in
    let k = c.loop-i.invariant in
    let l = c.loop-i-test.true in
    let e = sym c.has.ensures in
    elim c.if-has.branch [
      | then-has w ↦ rw (w.at-is, w.out-is) (put_one x.rows.now _ _ _ _ k l (e ∙ w.if-has.true) w.put_entry.ensures)
      | else-has w ↦ rw (w.at-is, w.out-is) (put_skip x.rows.now _ _ _ _ k l (e ∙ w.if-has.false))
    ]

pub shape_of-out : goal.shape_of-out
shape_of-out c = c.loop-i.invariant.long

pub returns : goal.returns
unfolding entries_of
returns c = put_over c.loop-i.invariant c.loop-i-test.false
