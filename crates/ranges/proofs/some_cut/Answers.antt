use Prim.Native.Nat.{ℕ}
use mathlib.Core.Path.{refl, ◌∙◌}
use lib.Dec.{ltb}
use lib.ListN.{length, get_or}
use borrow.Author.Rules.{rules}
use borrow.Author.Tests.{tests}
use Rattle.std.proofs.lemmas.Iterator.{YieldsList-from_range}
use Rattle.std.proofs.lemmas.Iterator.Search.{any_from_yields_List}
use Rattle.sets.specs.Tests.{◌and◌}
use Rattle.sets.specs.Sets.{has, any}
use Rattle.ranges.specs.Ranges.{overlap_in_part}
use Rattle.ranges.specs.After.{some_cut}
use Rattle.ranges.proofs.After.{cut_later}
use Rattle.ranges.proofs.Chains.{any_below}
use Rattle.ranges.proofs.some_cut.Goals as goal

pub returns : goal.returns
unfolding some_cut
returns c =
    let sets = c.args.sets.now in
    let test = λ (i : ℕ). any (length sets) (λ j. ltb i j and overlap_in_part (has (get_or sets i 0)) (has (get_or sets j 0))) in
    any_from_yields_List test _ _ _ c.any.ensures.ran (YieldsList-from_range _ _ _ refl refl) (λ x b q k. search (rules, tests, cut_later))
    ∙ any_below test _
