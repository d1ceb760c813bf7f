use Rattle.answers.specs.Answers.{apart}
use Rattle.vectors.proofs.Laws.{never}
use Rattle.vectors.proofs.agree.request_agrees.Goals as goal

pub returns-then-aestilumne_request-answer : goal.returns-then-aestilumne_request-answer
returns-then-aestilumne_request-answer c = never

pub returns : goal.returns
unfolding apart
returns c =
    λ e.
    record {
      after = _;
      answered = rw c.if-aestilumne_request-answer.false at c.aestilumne_request.ensures;
      bytes = c.starts.ensures e;
    }
