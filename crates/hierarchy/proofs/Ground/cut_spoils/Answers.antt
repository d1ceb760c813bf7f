-- Assumes nothing.
use mathlib.Core.Path.{ap, ◌∙◌}
use Rattle.hierarchy.specs.Rules.{spoils}
use Rattle.hierarchy.proofs.Laws.{cut_above}
use Rattle.hierarchy.proofs.Ground.cut_spoils.Goals as goal

pub of-requires : goal.of-requires
of-requires c = cut_above c.args.self.now c.turned.ensures _ _ c.cut_edge-after.ensures c.cut_edge-above.ensures

pub returns : goal.returns
returns c = c.is_spoilt.ensures ∙ ap (spoils _) (c.of.ensures.0 ∙ c.cut_edge-after.ensures)
