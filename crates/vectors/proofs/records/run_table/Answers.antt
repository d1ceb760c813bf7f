-- Assumes nothing.
use Rattle.std.proofs.Common.{arith}
use Rattle.vectors.proofs.Laws.{past_first, past_part}
use Rattle.vectors.proofs.records.run_table.Goals as goal

pub returns : goal.returns
returns c =
    let n = past_first c.args.s.now 2 (omega arith) c.in_ok-n.ensures.1 c.in_ok-n.ensures.2 in
    let table = past_part c.args.s.now 8 n c.in_ok-table.ensures.1 c.in_ok-table.ensures.2 in
    let answer = past_part c.args.s.now 8 table c.in_ok-answer.ensures.1 c.in_ok-answer.ensures.2 in
    past_part c.args.s.now _ answer c.in_ok-policy.ensures.cases.2 c.in_ok-policy.ensures.cases.4
