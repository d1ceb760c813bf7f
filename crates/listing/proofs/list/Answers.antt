use native.Mathlib.Omega.{arith}
use Rattle.sets.proofs.Quantifiers.{count_le}
use Rattle.listing.specs.Listing.{place_count, in_rows}
use Rattle.listing.proofs.Laws.{list_unknown, list_short, list_room, list_entries}
use Rattle.listing.proofs.list.Goals as goal

pub returns-then-p-o : goal.returns-then-p-o
returns-then-p-o c = list_unknown _ _ _ c.if-p-o.true

pub overflow_mul-n : goal.overflow_mul-n
overflow_mul-n c = omega (arith, c.total-n.ensures, count_le place_count (in_rows c.gathered-rows.result))

pub returns-then-out-n : goal.returns-then-out-n
returns-then-out-n c = list_short _ _ _ c.if-p-o.false c.gathered-rows.ensures c.total-n.ensures c.if-out-n.true

pub put_entries-requires : goal.put_entries-requires
put_entries-requires c =
    list_room _ _ c.args.out.now c.if-p-o.false c.gathered-rows.ensures
    c.total-n.ensures c.if-out-n.false

pub shape_of-out : goal.shape_of-out
shape_of-out c = c.put_entries.auto.out

pub returns : goal.returns
returns c =
    list_entries _ _ _ c.if-p-o.false c.gathered-rows.ensures
    c.total-n.ensures c.if-out-n.false c.put_entries.ensures
