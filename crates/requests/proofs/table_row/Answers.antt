use Rattle.std.proofs.Common.{rules}
use Rattle.requests.specs.Numbers.{NUMBERS, table_row}
use Rattle.requests.proofs.table_row.Goals as goal

pub returns : goal.returns
unfolding NUMBERS table_row
returns c = search rules
