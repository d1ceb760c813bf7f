-- Assumes nothing.
use borrow.Author.Tests.{lt-ltb, le-ltb}
use Rattle.reading.proofs.nothing_left.Goals as goal

pub returns-then-left_over : goal.returns-then-left_over
returns-then-left_over c = rw (lt-ltb _ _ c.if-left_over.true)

pub returns : goal.returns
returns c = rw (le-ltb _ _ c.if-left_over.false)
