use lib.ListN.{get_or}
use Rattle.layout.specs.Layout.{juniors_bytes}
use Rattle.layout.proofs.Counts.{Counting}
use Rattle.layout.proofs.order_length.Given as goal

abbrev pub invariant-loop-a : goal.invariant-loop-a
invariant-loop-a l = Counting (λ i. juniors_bytes l.o.used i (get_or l.o.juniors i 0)) 64 l.initial.n l.a l.n
