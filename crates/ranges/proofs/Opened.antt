-- What sets, orders and ranges compute with, in one place: whoever unfolds one of these unfolds all that it names.
-- Assumes nothing.
use Prim.Native.Nat.{ℕ}
use Rattle.sets.specs.Tests.{◌and◌, ◌or◌, neg, ◌implies◌, ◌iff◌}
use Rattle.sets.specs.Sets.{has, all, any, count, least, set_of, subset, lowest_free, size}
use Rattle.order.specs.Order.{senior, at_least, reaches, reached, comparable, faulty, edge, tab_from, relate}
use Rattle.order.specs.Effects.{created, removed, inserted, cut, create, remove, insert, cut_edge}
use Rattle.ranges.specs.Ranges.{inside, in_range, encapsulated, overlap_in_part}
use Rattle.ranges.specs.Rows.{within, low_not_junior, not_encapsulated, overlap, unsound}

unfoldable pub sets_opened : ℕ
unfolding ◌and◌ ◌or◌ neg ◌implies◌ ◌iff◌ has all any count least set_of subset lowest_free size
sets_opened = 0

unfoldable pub order_opened : ℕ
unfolding sets_opened senior at_least reaches reached comparable faulty edge tab_from relate
order_opened = 0

unfoldable pub effects_opened : ℕ
unfolding order_opened created removed inserted cut create remove insert cut_edge
effects_opened = 0

unfoldable pub ranges_opened : ℕ
unfolding order_opened inside in_range encapsulated overlap_in_part within low_not_junior not_encapsulated overlap unsound
ranges_opened = 0
