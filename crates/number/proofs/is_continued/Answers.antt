use mathlib.Core.Path.{sym, ◌∙◌}
use native.Mathlib.Omega.{arith}
use borrow.Author.Tests.{lt-leb, le-ltb}
use lib.ListN.{get_or, get_or-eq_default}
use Rattle.number.proofs.is_continued.Goals as goal

pub returns-else-i-s : goal.returns-else-i-s
returns-else-i-s c =
    let a = c.args in
    le-ltb _ _ c.if-i-s.false ∙ sym (lt-leb 128 (get_or a.s.now a.i 0) (omega (arith, get_or-eq_default a.s.now 0 {n = a.i} c.if-i-s.false)))
