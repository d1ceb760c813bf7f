-- Assumes nothing.
use mathlib.Core.Path.{◌∙◌}
use Rattle.hierarchy.proofs.Laws.{spoils_lent, sound_before}
use Rattle.hierarchy.proofs.Ground.is_spoilt.Goals as goal

pub is_unsound_after-requires : goal.is_unsound_after-requires
is_unsound_after-requires c =
    sound_before c.args.self.now c.of.ensures.0 c.in_use-rows.ensures c.if-self.true

pub returns-then-self : goal.returns-then-self
returns-then-self c = c.is_unsound_after.ensures ∙ spoils_lent _ c.in_use-rows.ensures _

pub returns-else-self : goal.returns-else-self
returns-else-self c = c.spoils_some.ensures ∙ spoils_lent _ c.in_use-rows.ensures _
