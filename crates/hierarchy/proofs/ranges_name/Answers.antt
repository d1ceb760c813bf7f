use mathlib.Core.Path.{◌∙◌}
use lib.Dec.{eqb}
use lib.ListN.{take}
use Rattle.std.proofs.lemmas.Iterator.{YieldsList-from_slice}
use Rattle.std.proofs.lemmas.Iterator.Search.{any_from_yields_List}
use borrow.Author.Rules.{rules}
use Rattle.sets.specs.Tests.{◌or◌}
use Rattle.ranges.specs.declared.ModifyRow.{ModifyRow}
use Rattle.ranges.specs.Rows.{no_row}
use Rattle.hierarchy.specs.Rules.{ranges_name}
use Rattle.policy.proofs.Rows.{any_front}
use Rattle.hierarchy.proofs.ranges_name.Goals as goal

pub returns : goal.returns
unfolding ranges_name
returns c =
    let m = c.args.modify.now in
    any_from_yields_List (λ (row : ModifyRow). eqb c.args.a row.low.0 or eqb c.args.a row.high.0) _ _ _ c.any.ensures.ran
    (YieldsList-from_slice (take m.count m.rows) cc) (λ x b q k. search rules)
    ∙ any_front _ m.rows no_row m.count c.in_use.ensures.1
