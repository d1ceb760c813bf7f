-- Assumes nothing.
use Prim.Native.Nat.{ℕ}
use mathlib.Core.Bool.{true, false}
use mathlib.Core.Path.{◌≡◌, ◌∙◌}
use lib.Dec.{ltb}
use lib.ListN.{length}
use borrow.Author.Rules.{rules}
use borrow.Author.Tests.{tests}
use Rattle.std.proofs.lemmas.Iterator.{first_from_Range}
use Rattle.sets.specs.Tests.{◌and◌}
use Rattle.sets.specs.Sets.{any}
use Rattle.ranges.specs.Rows.{row_at, overlap, first_overlap}
use Rattle.ranges.specs.Ranking.{over}
use Rattle.ranges.proofs.Chains.{first_below}
use Rattle.ranges.proofs.Ranking.first_overlap.Goals as goal

pub returns : goal.returns
unfolding first_overlap
returns c =
    let rows = c.args.rows.now in
    let test = λ (i : ℕ). any (length rows) (λ j. ltb i j and overlap (over c.args.self) (row_at rows i) (row_at rows j)) in
    c.unwrap_or.ensures ∙ first_below test _ _
    (first_from_Range _ _ _ _ (λ i. test i ≡ true) (λ i. test i ≡ false) c.find.ensures.ran
    (λ x q k. search (rules, tests)) (λ x q k. search (rules, tests)))
