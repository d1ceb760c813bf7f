-- Assumes nothing.
use Prim.Native.Nat.{ℕ}
use mathlib.Core.Path.{refl, ◌∙◌}
use borrow.Author.Rules.{rules}
use borrow.Author.Tests.{tests}
use Rattle.std.proofs.lemmas.Iterator.{YieldsList-from_range}
use Rattle.std.proofs.lemmas.Iterator.Search.{any_from_yields_List}
use Rattle.ranges.specs.declared.Look.TheVariants.{Either}
use Rattle.ranges.specs.Rows.{row_at, row_fails}
use Rattle.ranges.specs.Ranking.{over}
use Rattle.ranges.proofs.Chains.{any_below}
use Rattle.ranges.proofs.Ranking.some_fails_after.Goals as goal

pub returns : goal.returns
returns c =
    let test = λ (i : ℕ). row_fails Either c.args.after.used (over c.args.after) (row_at c.args.rows.now i) in
    any_from_yields_List test _ _ _ c.any.ensures.ran (YieldsList-from_range _ _ _ refl refl) (λ x b q k. search (rules, tests))
    ∙ any_below test _
