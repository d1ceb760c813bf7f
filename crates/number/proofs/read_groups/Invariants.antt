use Rattle.number.proofs.Reader.{Reading}
use Rattle.number.proofs.read_groups.Given as goal

abbrev pub invariant-loop-n : goal.invariant-loop-n
invariant-loop-n l = Reading l.s l.at l.last l.value l.scale l._n
