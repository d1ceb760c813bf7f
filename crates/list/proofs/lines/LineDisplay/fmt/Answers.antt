use borrow.Author.Rules.{rules}
use Rattle.list.proofs.Laws.{line_is}
use Rattle.list.proofs.lines.LineDisplay.fmt.Goals as goal

pub returns-clause-writes : goal.returns-clause-writes
returns-clause-writes g c = λ plain ok.
    let l = c.args.self.now in
    rw (line_is l.user l.kind l.a l.b (search rules) (search rules) (search rules) (search rules)) (c.writeln.ensures.writes plain ok)
