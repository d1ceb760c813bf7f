use Prim.Native.Nat.{◌^◌, ◌<◌}
use Rattle.sets.proofs.Members.{Remaining}
use Rattle.ranges.specs.Ranking.{over}
use Rattle.ranges.specs.After.{SameAt}
use Rattle.ranges.proofs.Ranking.differing.Given as goal

abbrev pub invariant-loop-rest : goal.invariant-loop-rest
invariant-loop-rest l = (l.rest < 2 ^ 64) × Remaining (SameAt (over l.self) (over l.after) l.set) l.self.used l.rest

abbrev pub decreases-loop-rest : goal.decreases-loop-rest
decreases-loop-rest l = l.rest
