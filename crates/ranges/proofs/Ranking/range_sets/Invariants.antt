use mathlib.Core.Path.{◌≡◌}
use mathlib.Core.List.{List}
use Prim.Native.Nat.{ℕ}
use lib.ListN.{length}
use Rattle.sets.specs.Sets.{Exactly}
use Rattle.sets.proofs.Loops.{Rewritten}
use Rattle.order.specs.Order.{senior}
use Rattle.ranges.specs.declared.ModifyRow.{ModifyRow}
use Rattle.ranges.specs.Rows.{row_at, within}
use Rattle.ranges.proofs.Ranking.range_sets.Given as goal

-- what stands at the place of a row
abbrev Range : List ℕ → List ModifyRow → ℕ → ℕ → Type 0
Range juniors rows i v = Exactly v (within (senior juniors) (row_at rows i))

abbrev pub invariant-loop-i : goal.invariant-loop-i
invariant-loop-i l = (length l.sets ≡ 64) × Rewritten (Range l.self.juniors.now l.rows) l.initial.sets l.sets l.i
