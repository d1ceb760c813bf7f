use Prim.Native.Nat.{ℕ}
use mathlib.Core.Path.{refl, ◌∙◌}
use lib.ListN.{get_or}
use borrow.Author.Rules.{rules}
use borrow.Author.Tests.{tests}
use Rattle.std.proofs.lemmas.Iterator.{YieldsList-from_range}
use Rattle.std.proofs.lemmas.Iterator.Search.{any_from_yields_List}
use Rattle.sets.specs.Sets.{has}
use Rattle.ranges.specs.Ranges.{overlap_in_part}
use Rattle.ranges.specs.After.{cut_from}
use Rattle.ranges.proofs.Chains.{any_between}
use Rattle.ranges.proofs.cut_from.Goals as goal

pub returns : goal.returns
unfolding cut_from
returns c =
    let test = λ (j : ℕ). overlap_in_part (has c.args.range) (has (get_or c.args.sets.now j 0)) in
    any_from_yields_List test _ _ _ c.any.ensures.ran (YieldsList-from_range _ _ _ refl refl) (λ x b q k. search (rules, tests))
    ∙ any_between test _ _
