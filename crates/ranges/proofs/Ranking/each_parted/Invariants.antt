use Prim.Native.Nat.{◌^◌, ◌<◌}
use Rattle.sets.specs.Sets.{has}
use Rattle.ranges.specs.Ranking.{over}
use Rattle.ranges.specs.Ranges.{parted}
use Rattle.ranges.proofs.Laws.{Passed}
use Rattle.ranges.proofs.Ranking.each_parted.Given as goal

abbrev pub invariant-loop-rest : goal.invariant-loop-rest
invariant-loop-rest l = (l.rest < 2 ^ 64) × Passed (λ r. parted (over l.self) r (has l.outside) (has l.above) (has l.below)) l.range l.rest

abbrev pub decreases-loop-rest : goal.decreases-loop-rest
decreases-loop-rest l = l.rest
