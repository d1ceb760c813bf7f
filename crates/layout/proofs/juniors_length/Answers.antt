use mathlib.Core.Path.{◌∙◌, sym, ap}
use lib.ListN.{length}
use Rattle.layout.proofs.Lengths.{juniors_in, juniors_out}
use Rattle.layout.proofs.juniors_length.Goals as goal

pub returns-then-has : goal.returns-then-has
returns-then-has c = c.number_len.ensures ∙ sym (ap length (juniors_in _ _ _ (sym c.has.ensures ∙ c.if-has.true)))

pub returns-else-has : goal.returns-else-has
returns-else-has c = sym (ap length (juniors_out _ _ _ (sym c.has.ensures ∙ c.if-has.false)))
