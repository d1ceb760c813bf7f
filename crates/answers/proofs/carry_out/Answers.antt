-- Assumes nothing.
use Rattle.answers.proofs.Laws.{written_carried, written_fits}
use Rattle.answers.proofs.carry_out.Goals as goal

pub of_written-requires : goal.of_written-requires
of_written-requires c = written_fits _ _ _ c.write_policy.ensures c.requires.0 c.requires.1

pub returns : goal.returns
returns c = written_carried _ _ _ c.write_policy.ensures c.of_written.ensures
