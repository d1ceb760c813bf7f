use Prim.Native.Nat.{◌+◌, ◌*◌}
use Rattle.listing.specs.Listing.{in_rows}
use Rattle.listing.proofs.Laws.{total_none, total_end, total_turn}
use native.Mathlib.Omega.{arith}
use Rattle.sets.proofs.Quantifiers.{count_le}
use Rattle.listing.proofs.total.Goals as goal

pub loop-row-init : goal.loop-row-init
loop-row-init c = total_none _

pub overflow_add-n : goal.overflow_add-n
overflow_add-n c =
    omega (
      arith,
      total_turn _ _ _ _ c.loop-row.invariant c.size.ensures,
      count_le ((c.loop-row.row-index + 1) * 64) (in_rows c.args.rows.now),
    )

pub loop-row-preserved : goal.loop-row-preserved
loop-row-preserved c = total_turn _ _ _ _ c.loop-row.invariant c.size.ensures

pub returns : goal.returns
returns c = total_end _ _ _ (omega arith) (omega arith) c.loop-row.invariant
