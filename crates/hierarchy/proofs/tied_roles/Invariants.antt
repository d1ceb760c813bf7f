use Rattle.sets.proofs.Loops.{Gathered}
use Rattle.hierarchy.specs.Rules.{tied_in}
use Rattle.hierarchy.proofs.tied_roles.Given as goal

abbrev pub invariant-loop-a : goal.invariant-loop-a
invariant-loop-a l = Gathered (tied_in l.p) l.set l.a
