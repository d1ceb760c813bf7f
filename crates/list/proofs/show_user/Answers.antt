use mathlib.Core.Path.{sym}
use native.Mathlib.Omega.{arith}
use lib.Seq.{length-take-le}
use Rattle.listing.proofs.Laws.{entries_fit}
use Rattle.list.proofs.show_user.Goals as goal

pub overflow_mul-out : goal.overflow_mul-out
overflow_mul-out g c = omega (arith, entries_fit _ _ _ (sym c.in-Ok.ensures.is))

pub slice_bounds-out-end : goal.slice_bounds-out-end
slice_bounds-out-end g c = omega (arith, entries_fit _ _ _ (sym c.in-Ok.ensures.is), c.list.auto.out)

pub slice_bounds-show_entries-end : goal.slice_bounds-show_entries-end
slice_bounds-show_entries-end g c = sym (length-take-le _ _ (omega (arith, entries_fit _ _ _ (sym c.in-Ok.ensures.is), c.list.auto.out)))
