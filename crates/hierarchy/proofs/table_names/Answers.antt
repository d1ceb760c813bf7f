use mathlib.Core.Path.{◌∙◌}
use lib.ListN.{take}
use Rattle.std.proofs.lemmas.Iterator.{YieldsList-from_slice}
use Rattle.std.proofs.lemmas.Iterator.Search.{any_from_yields_List}
use borrow.Author.Rules.{rules}
use Rattle.policy.specs.Build.{empty_row}
use Rattle.hierarchy.specs.Rules.{row_names, table_names}
use Rattle.policy.proofs.Rows.{any_front}
use Rattle.hierarchy.proofs.table_names.Goals as goal

pub returns : goal.returns
unfolding table_names
returns c =
    let t = c.args.table.now in
    any_from_yields_List (λ row. row_names row c.args.a) _ _ _ c.any.ensures.ran
    (YieldsList-from_slice (take t.count t.rows) cc) (λ x b q k. search rules)
    ∙ any_front _ t.rows empty_row t.count c.in_use.ensures.1
