use lib.ListN.{get_or}
use Rattle.number.specs.Number.{num_bytes}
use Rattle.number.proofs.Puts.{Putting}
use Rattle.writers.proofs.write_permissions.Given as goal

abbrev pub invariant-loop-roles : goal.invariant-loop-roles
invariant-loop-roles l = Putting (λ j. num_bytes (get_or l.fn.m.roles j 0)) l.fn.m.count l.initial.out l.initial.place l.roles-index l.out l.place
