use Rattle.layout.specs.Layout.{juniors_bytes}
use lib.ListN.{get_or}
use Rattle.number.proofs.Puts.{Putting}
use Rattle.writers.proofs.write_order.Given as goal

abbrev pub invariant-loop-a : goal.invariant-loop-a
invariant-loop-a l = Putting (λ i. juniors_bytes l.o.used i (get_or l.o.juniors i 0)) 64 l.initial.out l.initial.place l.a l.out l.place
