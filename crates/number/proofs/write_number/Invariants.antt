use Rattle.number.proofs.Bytes.{Writing}
use Rattle.number.proofs.write_number.Given as goal

abbrev pub invariant-loop-v : goal.invariant-loop-v
invariant-loop-v l = Writing l.initial.out l.at l.x l.out l.v l.i

abbrev pub decreases-loop-v : goal.decreases-loop-v
decreases-loop-v l = l.v
