-- Assumes nothing.
use mathlib.Core.Path.{sym, ◌∙◌}
use Rattle.reading.specs.File.{file_at, read_policy}
use Rattle.reading.proofs.Laws.{loaded_go, loaded_stop}
use Rattle.reading.proofs.Turns.{how_stops}
use Rattle.reading.proofs.read_policy.Goals as goal

pub returns-in_err-read_file-clause-how : goal.returns-in_err-read_file-clause-how
unfolding read_policy
returns-in_err-read_file-clause-how c = how_stops _ _ c.from_residual.ensures.1 ∙ sym (rw (loaded_stop (file_at c.args.s.now) c.in_err-read_file.ensures))

pub returns-in_err-read_file-clause-policy : goal.returns-in_err-read_file-clause-policy
unfolding read_policy
returns-in_err-read_file-clause-policy c = c.empty_policy.ensures ∙ sym (rw (loaded_stop (file_at c.args.s.now) c.in_err-read_file.ensures))

pub returns-clause-how : goal.returns-clause-how
unfolding read_policy
returns-clause-how c = sym (rw (loaded_go (file_at c.args.s.now) c.in_ok-read_file.ensures.1))

pub returns-clause-policy : goal.returns-clause-policy
unfolding read_policy
returns-clause-policy c = sym (rw (loaded_go (file_at c.args.s.now) c.in_ok-read_file.ensures.1))
