use mathlib.Core.List.{List}
use mathlib.Core.Path.{◌≡◌}
use Prim.Native.Nat.{ℕ}
use lib.ListN.{length}
use Rattle.sets.specs.Tests.{◌and◌, ◌or◌}
use Rattle.sets.specs.Sets.{has, Exactly}
use Rattle.sets.proofs.Loops.{Rewritten}
use Rattle.order.specs.Order.{senior, at_least}
use Rattle.order.proofs.Order.spread.Given as goal

-- what the row of x is to hold
abbrev Row : ℕ → ℕ → List ℕ → ℕ → ℕ → Type 0
Row a gained js x v = Exactly v (λ y. senior js x y or (at_least (senior js) x a and has gained y))

abbrev pub invariant-loop-x : goal.invariant-loop-x
invariant-loop-x l = (length l.next ≡ 64) × Rewritten (Row l.a l.gained l.self.juniors) l.self.juniors l.next l.x
