use mathlib.Core.List.{List}
use mathlib.Core.Path.{◌≡◌}
use Prim.Native.Nat.{ℕ}
use lib.ListN.{length}
use lib.Dec.{eqb}
use Rattle.sets.specs.Tests.{◌and◌, neg}
use Rattle.sets.specs.Sets.{Exactly}
use Rattle.sets.proofs.Loops.{Rewritten}
use Rattle.order.specs.Order.{senior}
use Rattle.order.proofs.Order.dropped.Given as goal

-- what the row of x is to hold
abbrev Row : ℕ → List ℕ → ℕ → ℕ → Type 0
Row a js x v = Exactly v (λ y. senior js x y and neg (eqb y a))

abbrev pub invariant-loop-x : goal.invariant-loop-x
invariant-loop-x l = (length l.next ≡ 64) × Rewritten (Row l.a l.self.juniors) l.self.juniors l.next l.x
