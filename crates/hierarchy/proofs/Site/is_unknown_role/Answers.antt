use mathlib.Core.Path.{◌≡◌, sym, ◌∙◌}
use mathlib.Core.Bool.{not}
use native.Mathlib.Omega.{arith}
use Rattle.sets.specs.Tests.{◌and◌, neg}
use Rattle.sets.proofs.Digits.{has_below}
use Rattle.hierarchy.specs.Rules.{unknown_role}
use Rattle.hierarchy.proofs.Laws.{known_role}
use Rattle.hierarchy.proofs.Site.is_unknown_role.Goals as goal

pub returns : goal.returns
unfolding unknown_role ◌and◌ neg
returns c =
    let x = c.args in
    let number : not c.if-self.result ≡ unknown_role x.self.now x.a = grind arith in
    record { number = number; below = λ e. has_below 64 _ _ (omega arith) (known_role x.self.now x.a (sym number ∙ e)) }
