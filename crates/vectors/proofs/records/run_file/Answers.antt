-- Assumes nothing.
use Rattle.std.proofs.Common.{arith}
use Rattle.vectors.proofs.Laws.{past_first, past_byte, past_part}
use Rattle.vectors.proofs.records.run_file.Goals as goal

pub returns : goal.returns
returns c =
    let n = past_first c.args.s.now 2 (omega arith) c.in_ok-n.ensures.1 c.in_ok-n.ensures.2 in
    let outcome = past_byte c.args.s.now n c.in_ok-outcome.ensures.cases.0 c.in_ok-outcome.ensures.cases.1 in
    let place = past_part c.args.s.now 2 outcome c.in_ok-place.ensures.1 c.in_ok-place.ensures.2 in
    past_part c.args.s.now _ place c.in_ok-input.ensures.cases.2 c.in_ok-input.ensures.cases.4
