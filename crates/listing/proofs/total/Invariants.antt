use Prim.Native.Nat.{◌*◌}
use mathlib.Core.Path.{◌≡◌}
use Rattle.listing.specs.Listing.{in_rows}
use Rattle.sets.specs.Sets.{count}
use Rattle.listing.proofs.total.Given as goal

abbrev pub invariant-loop-row : goal.invariant-loop-row
invariant-loop-row l = l.n ≡ count (l.row-index * 64) (in_rows l.rows)
