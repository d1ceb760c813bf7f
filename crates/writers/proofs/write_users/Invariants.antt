use Rattle.layout.specs.Layout.{user_bytes}
use lib.ListN.{get_or}
use Rattle.number.proofs.Puts.{Putting}
use Rattle.writers.proofs.write_users.Given as goal

abbrev pub invariant-loop-i : goal.invariant-loop-i
invariant-loop-i l = Putting (λ j. user_bytes (get_or l.p.users.roles j 0) (get_or l.p.offices j 0)) l.p.users.count l.initial.out l.initial.place l.i l.out l.place
