use Rattle.answers.specs.Answers.{apart}
use Rattle.vectors.proofs.Laws.{never}
use Rattle.vectors.proofs.agree.listing_agrees.Goals as goal

pub returns-then-aestilumne_listing-answer : goal.returns-then-aestilumne_listing-answer
returns-then-aestilumne_listing-answer c = never

pub returns : goal.returns
unfolding apart
returns c =
    λ e.
    record {
      after = _;
      answered = rw c.if-aestilumne_listing-answer.false at c.aestilumne_listing.ensures;
      bytes = c.starts.ensures e;
    }
