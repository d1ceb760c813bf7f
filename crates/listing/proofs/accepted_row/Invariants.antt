use Prim.Native.Nat.{◌+◌, ◌/◌}
use lib.Dec.{eqb}
use Rattle.listing.specs.Sites.{site_outcome}
use Rattle.listing.proofs.Sifted.{Sifted}
use Rattle.listing.proofs.accepted_row.Given as goal

abbrev pub invariant-loop-rest : goal.invariant-loop-rest
invariant-loop-rest l = Sifted (λ b. eqb (site_outcome l.ground.site l.tied (5 + l.j / 64) l.a b) 0) l.initial.rest l.row l.rest

abbrev pub decreases-loop-rest : goal.decreases-loop-rest
decreases-loop-rest l = l.rest
