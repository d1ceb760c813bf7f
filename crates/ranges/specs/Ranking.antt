-- A ranking, as contracts see it.
use Rattle.order.specs.declared.Order.{Order}
use Rattle.order.specs.Order.{Relation, senior}
use Rattle.ranges.specs.declared.Ranking.{Ranking}

-- the order that it ranks
abbrev pub order_of : Ranking → Order
order_of k = record { used = k.used; juniors = k.juniors.now }

-- who is senior to whom in it
abbrev pub over : Ranking → Relation
over k = senior k.juniors.now
