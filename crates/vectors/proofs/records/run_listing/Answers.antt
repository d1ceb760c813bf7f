-- Assumes nothing.
use Rattle.std.proofs.Common.{arith}
use Rattle.vectors.proofs.Laws.{past_first, past_part}
use Rattle.vectors.proofs.records.run_listing.Goals as goal

pub returns : goal.returns
returns c =
    let n = past_first c.args.s.now 2 (omega arith) c.in_ok-n.ensures.1 c.in_ok-n.ensures.2 in
    let officer = past_part c.args.s.now 8 n c.in_ok-officer.ensures.1 c.in_ok-officer.ensures.2 in
    let answer = past_part c.args.s.now 8 officer c.in_ok-answer.ensures.1 c.in_ok-answer.ensures.2 in
    let policy = past_part c.args.s.now _ answer c.in_ok-policy.ensures.cases.2 c.in_ok-policy.ensures.cases.4 in
    past_part c.args.s.now _ policy c.in_ok-entries.ensures.cases.2 c.in_ok-entries.ensures.cases.4
