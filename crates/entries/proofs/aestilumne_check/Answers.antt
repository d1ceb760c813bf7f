-- Assumes nothing.
use Rattle.entries.proofs.Laws.{told, file_fits, checked}
use Rattle.entries.proofs.aestilumne_check.Goals as goal

pub of_file-requires : goal.of_file-requires
of_file-requires c = file_fits _ _ (told _ _ _ c.read_file.ensures)

pub returns : goal.returns
returns c = checked _ (told _ _ _ c.read_file.ensures) c.of_file.ensures
