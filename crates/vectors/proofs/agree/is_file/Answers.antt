use Rattle.std.proofs.Common.{sym, ◌∙◌, refl, lit≤}
use Rattle.vectors.proofs.Laws.{never, written_start}
use Rattle.vectors.proofs.agree.is_file.Goals as goal

pub returns-in-Ok : goal.returns-in-Ok
returns-in-Ok c = λ e. sym (written_start _ c.requires _ c.in-Ok.ensures refl (lit≤ tt)) ∙ c.starts.ensures e

pub returns-in-Err : goal.returns-in-Err
returns-in-Err c = never
