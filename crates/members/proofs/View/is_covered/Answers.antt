use mathlib.Core.Path.{◌∙◌}
use Rattle.std.proofs.Common.{rules, tests}
use Rattle.std.proofs.lemmas.Iterator.{YieldsList-from_slice}
use Rattle.std.proofs.lemmas.Iterator.Search.{any_from_yields_List}
use Rattle.members.specs.Rules.{covers}
use Rattle.members.proofs.Laws.{covered_rows}
use Rattle.members.proofs.View.is_covered.Goals as goal

pub returns : goal.returns
returns c =
    let v = c.args.self in
    any_from_yields_List (covers v c.args.b) _ _ _ c.any.ensures.ran (YieldsList-from_slice _ cc) (λ x b q k. search (rules, tests))
    ∙ covered_rows v c.args.b (search rules)
