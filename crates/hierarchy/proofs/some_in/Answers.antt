use mathlib.Core.Path.{◌∙◌}
use Prim.Native.Nat.{ℕ}
use native.Mathlib.Omega.{arith}
use lib.ListN.{take}
use Rattle.std.proofs.lemmas.Iterator.{YieldsList-from_slice}
use Rattle.std.proofs.lemmas.Iterator.Search.{any_from_yields_List}
use borrow.Author.Rules.{rules}
use Rattle.sets.specs.Sets.{has}
use Rattle.hierarchy.specs.Rules.{some_in}
use Rattle.policy.proofs.Rows.{any_front}
use Rattle.hierarchy.proofs.some_in.Goals as goal

pub returns : goal.returns
unfolding some_in
returns c =
    let m = c.args.members.now in
    any_from_yields_List (λ (s : ℕ). has s c.args.a) _ _ _ c.any.ensures.ran
    (YieldsList-from_slice (take m.count m.roles) cc) (λ x b q k. search rules)
    ∙ any_front _ m.roles 0 m.count (omega arith)
