use Rattle.number.specs.Number.{num_bytes}
use Rattle.layout.proofs.Counts.{Counting}
use lib.ListN.{get_or}
use Rattle.layout.proofs.permissions_length.Given as goal

abbrev pub invariant-loop-roles : goal.invariant-loop-roles
invariant-loop-roles l = Counting (λ j. num_bytes (get_or l.fn.m.roles j 0)) l.fn.m.count l.initial.n l.roles-index l.n
