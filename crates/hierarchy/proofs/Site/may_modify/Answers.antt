use mathlib.Core.Path.{◌∙◌}
use native.Mathlib.Omega.{arith}
use lib.ListN.{take}
use Rattle.std.proofs.lemmas.Iterator.{YieldsList-from_slice}
use Rattle.std.proofs.lemmas.Iterator.Search.{any_from_yields_List}
use Rattle.sets.specs.Tests.{◌and◌}
use Rattle.sets.specs.Sets.{has}
use Rattle.order.specs.Order.{senior}
use Rattle.ranges.specs.declared.ModifyRow.{ModifyRow}
use Rattle.ranges.specs.Rows.{no_row}
use Rattle.hierarchy.specs.Kinds.{kind_number}
use Rattle.hierarchy.specs.Rules.{row_allows, may_modify}
use Rattle.policy.proofs.Rows.{any_front}
use Rattle.hierarchy.proofs.Site.may_modify.Goals as goal

pub returns : goal.returns
unfolding may_modify ◌and◌
returns c =
    let x = c.args in
    let site = x.self.now in
    let m = site.modify in
    any_from_yields_List (λ (row : ModifyRow). has site.usable row.admin.0
    and row_allows (kind_number x.kind) (senior site.roles.juniors) x.a x.b row) _ _ _ c.any.ensures.ran
    (YieldsList-from_slice (take m.count m.rows) cc) (λ x b q k. grind arith)
    ∙ any_front _ m.rows no_row m.count c.in_use.ensures.1
