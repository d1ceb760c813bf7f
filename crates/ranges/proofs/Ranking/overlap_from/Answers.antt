use Prim.Native.Nat.{ℕ}
use mathlib.Core.Bool.{true, false}
use mathlib.Core.Path.{◌≡◌, ◌∙◌}
use borrow.Author.Rules.{rules}
use borrow.Author.Tests.{tests}
use Rattle.std.proofs.lemmas.Iterator.{first_from_Range}
use Rattle.sets.specs.Sets.{has}
use Rattle.ranges.specs.Ranking.{over}
use Rattle.ranges.specs.Ranges.{overlap_in_part}
use Rattle.ranges.specs.Rows.{row_at, within, overlap_from}
use Rattle.ranges.proofs.Chains.{first_between}
use Rattle.ranges.proofs.Ranking.overlap_from.Goals as goal

pub returns : goal.returns
unfolding overlap_from
returns c =
    let test = λ (j : ℕ). overlap_in_part (has c.args.range) (within (over c.args.self) (row_at c.args.rows.now j)) in
    c.unwrap_or.ensures ∙ first_between test _ _ _
    (first_from_Range _ _ _ _ (λ j. test j ≡ true) (λ j. test j ≡ false) c.find.ensures.ran
    (λ x q k. search (rules, tests)) (λ x q k. search (rules, tests)))
