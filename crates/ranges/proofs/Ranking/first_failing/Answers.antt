use mathlib.Core.Bool.{true, false}
use mathlib.Core.Path.{◌≡◌, ◌∙◌}
use borrow.Author.Rules.{rules}
use borrow.Author.Tests.{tests}
use Rattle.std.proofs.lemmas.Iterator.{IsFirst-from_position, YieldsList-from_slice}
use Rattle.ranges.specs.Ranking.{over}
use Rattle.ranges.specs.Rows.{no_row, row_fails, first_failing}
use Rattle.ranges.proofs.Chains.{first_place}
use Rattle.ranges.proofs.Ranking.first_failing.Goals as goal

pub returns : goal.returns
unfolding first_failing
returns c =
    let test = row_fails c.args.look c.args.self.used (over c.args.self) in
    c.unwrap_or.ensures ∙ first_place test no_row _ _
    (IsFirst-from_position _ _ _ (λ row. test row ≡ true) (λ row. test row ≡ false) c.position.ensures.ran
    (YieldsList-from_slice c.args.rows.now c.iter.ensures.rest) (λ x q k. search (rules, tests)) (λ x q k. search (rules, tests)))
