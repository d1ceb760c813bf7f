-- Assumes nothing.
use Rattle.entries.proofs.Laws.{bad_fits, bad_question, good_question}
use Rattle.entries.proofs.aestilumne_question.Goals as goal

pub of_bad_file-requires : goal.of_bad_file-requires
of_bad_file-requires c = bad_fits _ c.in-Err.ensures

pub returns-in-Err : goal.returns-in-Err
returns-in-Err c = bad_question _ c.in-Err.ensures c.of_bad_file.ensures _ _

pub returns-in-Ok : goal.returns-in-Ok
returns-in-Ok c = good_question _ c.in-Ok.ensures.1 _ _ c.question.ensures c.of_reply.ensures
