-- Assumes nothing.
use Rattle.entries.proofs.Laws.{part_fits, part_answered}
use Rattle.entries.proofs.aestilumne_table.Goals as goal

pub of_part-requires : goal.of_part-requires
of_part-requires c = part_fits _ c.args.table c.find_part.ensures

pub returns : goal.returns
returns c = part_answered _ c.args.table c.find_part.ensures c.of_part.ensures
