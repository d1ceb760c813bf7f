use mathlib.Core.Path.{sym, ◌∙◌}
use borrow.Author.Tests.{le-ltb, lt-ltb}
use Rattle.sets.proofs.Tests.{and_fails_l, and_given}
use Rattle.members.proofs.is_below.Goals as goal

pub returns-then-o-officers : goal.returns-then-o-officers
returns-then-o-officers c = sym (and_given _ _ (lt-ltb _ _ c.if-o-officers.true))

pub returns-else-o-officers : goal.returns-else-o-officers
returns-else-o-officers c = le-ltb _ _ c.if-o-officers.false ∙ sym (and_fails_l _ _ (le-ltb _ _ c.if-o-officers.false))
