use mathlib.Core.Path.{◌∙◌}
use Rattle.requests.proofs.Table.{row_is}
use Rattle.requests.proofs.may_give.Goals as goal

pub returns : goal.returns
returns c = c.contains.ensures ∙ rw c.table_row.ensures (row_is _ _)
