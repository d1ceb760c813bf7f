use mathlib.Core.Path.{◌∙◌, sym}
use Rattle.layout.proofs.Lengths.{juniors_in, juniors_out}
use Rattle.writers.proofs.Chains.{wrote_as, wrote_none, room_as}
use Rattle.writers.proofs.write_juniors.Goals as goal

pub put_number-requires : goal.put_number-requires
put_number-requires c = room_as (juniors_in _ _ _ (sym c.has.ensures ∙ c.if-has.true)) c.requires.1

pub returns-then-has : goal.returns-then-has
returns-then-has c = wrote_as (juniors_in _ _ _ (sym c.has.ensures ∙ c.if-has.true)) c.put_number.ensures

pub returns-else-has : goal.returns-else-has
returns-else-has c = wrote_as (juniors_out _ _ _ (sym c.has.ensures ∙ c.if-has.false)) (wrote_none _ _)
