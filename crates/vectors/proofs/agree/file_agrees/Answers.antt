use Rattle.std.proofs.Common.{sym}
use Rattle.reading.proofs.Theorems.{accepted_good}
use Rattle.vectors.proofs.Laws.{never, not_accepted}
use Rattle.vectors.proofs.agree.file_agrees.Goals as goal

pub returns-then-aestilumne_check-answer : goal.returns-then-aestilumne_check-answer
returns-then-aestilumne_check-answer c = never

pub is_file-requires : goal.is_file-requires
is_file-requires c = rw c.in-Ok.ensures.policy (accepted_good _ (sym c.in-Ok.ensures.how))

pub returns-in-Ok : goal.returns-in-Ok
returns-in-Ok c =
    λ e.
    record {
      answered = rw c.if-aestilumne_check-answer.false at c.aestilumne_check.ensures;
      again = λ q. rw c.in-Ok.ensures.policy at (c.is_file.ensures e);
    }

pub returns-in-Err : goal.returns-in-Err
returns-in-Err c =
    λ e.
    record {
      answered = rw c.if-aestilumne_check-answer.false at c.aestilumne_check.ensures;
      again = not_accepted _ _ c.in-Err.ensures.how;
    }
