use lib.ListN.{get_or}
use Rattle.layout.specs.Layout.{user_bytes}
use Rattle.layout.proofs.Counts.{Counting}
use Rattle.layout.proofs.users_length.Given as goal

abbrev pub invariant-loop-i : goal.invariant-loop-i
invariant-loop-i l = Counting (λ j. user_bytes (get_or l.p.users.roles j 0) (get_or l.p.offices j 0)) l.p.users.count l.initial.n l.i l.n
