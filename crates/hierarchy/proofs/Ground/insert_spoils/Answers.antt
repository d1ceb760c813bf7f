-- Assumes nothing.
use mathlib.Core.Path.{ap, ◌∙◌}
use Rattle.hierarchy.specs.Rules.{spoils}
use Rattle.hierarchy.proofs.Laws.{inserted_above}
use Rattle.hierarchy.proofs.Ground.insert_spoils.Goals as goal

pub of-requires : goal.of-requires
of-requires c = inserted_above c.args.self.now c.turned.ensures _ _ c.insert-after.ensures c.insert-above.ensures

pub returns : goal.returns
returns c = c.is_spoilt.ensures ∙ ap (spoils _) (c.of.ensures.0 ∙ c.insert-after.ensures)
