use mathlib.Core.Path.{◌∙◌}
use Rattle.std.proofs.Common.{rules, tests}
use Rattle.std.proofs.lemmas.Iterator.{YieldsList-from_slice}
use Rattle.std.proofs.lemmas.Iterator.Search.{any_from_yields_List}
use Rattle.sets.specs.Tests.{◌and◌}
use Rattle.members.specs.Rules.{covers, satisfied}
use Rattle.members.proofs.Laws.{granted_rows}
use Rattle.members.proofs.View.is_granted.Goals as goal

pub returns : goal.returns
returns c =
    let v = c.args.self in
    any_from_yields_List (λ row. covers v c.args.b row and satisfied v row) _ _ _ c.any.ensures.ran (YieldsList-from_slice _ cc) (λ x b q k. search (rules, tests))
    ∙ granted_rows v c.args.b (search rules)
