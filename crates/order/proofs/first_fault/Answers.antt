use mathlib.Core.Path.{◌≡◌, ◌∙◌}
use mathlib.Core.Bool.{true, false}
use Prim.Native.Nat.{ℕ, ◌<◌}
use lib.ListN.{length}
use Rattle.std.specs.Prelude.{MatchOption}
use Rattle.std.proofs.iter.runs.Sources.{ranges}
use Rattle.sets.proofs.Loops.{found_or}
use Rattle.order.specs.Order.{senior, faulty, first_fault}
use borrow.Author.Rules.{rules}
use Rattle.order.proofs.first_fault.Goals as goal

pub returns : goal.returns
unfolding first_fault faulty senior
returns c =
    let js = c.args.juniors.now in
    let faulty_first : MatchOption c.find.result ((k : ℕ) → k < length js → faulty (senior js) k ≡ false)
    (λ a. (a < length js) × (faulty (senior js) a ≡ true) × ((k : ℕ) → k < a → faulty (senior js) k ≡ false)) =
    search (rules, ranges) in
    c.unwrap_or.ensures ∙ found_or _ _ _ faulty_first
