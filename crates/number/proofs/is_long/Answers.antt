use mathlib.Core.Path.{sym, ◌∙◌}
use native.Mathlib.Omega.{arith}
use borrow.Author.Tests.{lt-ltb, le-ltb}
use Rattle.sets.proofs.Tests.{and_given, and_fails_l}
use Rattle.number.specs.Number.{is_long}
use Rattle.number.proofs.is_long.Goals as goal

pub returns-then-n-gt-FIRST : goal.returns-then-n-gt-FIRST
unfolding is_long
returns-then-n-gt-FIRST c = sym (and_given _ _ (lt-ltb 0 c.args.n (omega arith)))

pub returns-else-n-gt-FIRST : goal.returns-else-n-gt-FIRST
unfolding is_long
returns-else-n-gt-FIRST c = let e = le-ltb 0 c.args.n (omega arith) in e ∙ sym (and_fails_l _ _ e)
