use mathlib.Core.Path.{sym, ◌∙◌}
use borrow.Author.Tests.{eq-eqb, ne_eqb}
use Rattle.sets.proofs.Tests.{and_given, and_fails_l}
use Rattle.number.specs.Number.{is_over}
use Rattle.number.proofs.is_over.Goals as goal

pub returns-then-n-eq9 : goal.returns-then-n-eq9
unfolding is_over
returns-then-n-eq9 c = sym (and_given _ _ (eq-eqb c.args.n 9 c.if-n-eq9.true))

pub returns-else-n-eq9 : goal.returns-else-n-eq9
unfolding is_over
returns-else-n-eq9 c = let e = ne_eqb c.args.n 9 c.if-n-eq9.false in e ∙ sym (and_fails_l _ _ e)
