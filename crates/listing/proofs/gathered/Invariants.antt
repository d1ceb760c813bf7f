use mathlib.Core.Path.{◌≡◌}
use Prim.Native.Nat.{ℕ, ◌<◌}
use lib.ListN.{get_or}
use Rattle.listing.specs.Sites.{site_set}
use Rattle.listing.proofs.gathered.Given as goal

abbrev pub invariant-loop-j : goal.invariant-loop-j
invariant-loop-j l = (k : ℕ) → k < l.j → get_or l.row-items k 0 ≡ site_set l.ground.site l.tied k
