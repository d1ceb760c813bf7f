use Rattle.std.proofs.Common.{sym, ◌∙◌}
use Rattle.answers.specs.Answers.{apart}
use Rattle.vectors.proofs.Laws.{never}
use Rattle.vectors.proofs.agree.table_agrees.Goals as goal

pub returns-then-aestilumne_table-answer : goal.returns-then-aestilumne_table-answer
returns-then-aestilumne_table-answer c = never

pub returns-then-s-end : goal.returns-then-s-end
returns-then-s-end c = never

pub returns : goal.returns
unfolding apart
returns c =
    λ e.
    record {
      answered = rw c.if-aestilumne_table-answer.false at c.aestilumne_table.ensures;
      bytes = sym c.table_part.ensures ∙ c.same.ensures.0 e;
    }
