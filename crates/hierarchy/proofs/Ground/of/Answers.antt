-- Assumes nothing.
use Rattle.hierarchy.proofs.Accepted.{site-size}
use Rattle.hierarchy.proofs.Ground.of.Goals as goal

pub on-requires : goal.on-requires
on-requires c = (site-size _ _ c.of.ensures c.requires.0, λ e. rw c.of.ensures (c.requires.1 e))
