use mathlib.Core.Path.{◌≡◌}
use mathlib.Core.Bool.{true}
use lib.ListN.{get_or}
use Rattle.sets.specs.Sets.{subset}
use Rattle.sets.proofs.Members.{Remaining}
use Rattle.order.proofs.lacks_one.Given as goal

abbrev pub invariant-loop-rest : goal.invariant-loop-rest
invariant-loop-rest l = Remaining (λ b. subset 64 (get_or l.juniors b 0) l.row ≡ true) l.row l.rest

abbrev pub decreases-loop-rest : goal.decreases-loop-rest
decreases-loop-rest l = l.rest
