use Rattle.number.proofs.Bytes.{Left}
use Rattle.number.proofs.number_len.Given as goal

-- n is counted as a place is, with the first byte at 1
abbrev pub invariant-loop-v : goal.invariant-loop-v
invariant-loop-v l = Left l.x 1 l.v l.n

abbrev pub decreases-loop-v : goal.decreases-loop-v
decreases-loop-v l = l.v
