use mathlib.Core.Path.{◌≡◌, sym, refl, ◌∙◌}
use Prim.Native.Nat.{ℕ}
use mir.Val.{Fits}
use mir.Syntax.{w64}
use lib.ListN.{length, get_or}
use borrow.Author.Tests.{eq-eqb, ne_eqb}
use Rattle.sets.specs.Tests.{◌and◌, neg}
use Rattle.sets.proofs.Tests.{and_true}
use Rattle.order.proofs.Lists.{set-relate}
use Rattle.order.specs.Order.{senior}
use Rattle.order.specs.Effects.{cut, cut_edge}
use borrow.Author.Rules.{rules}
use Rattle.order.proofs.Order.cut_edge.Goals as goal

pub returns : goal.returns
unfolding cut cut_edge senior ◌and◌ neg
returns c =
    let x = c.args in
    let n : length x.self.juniors ≡ 64 = search rules in
    let m : (i : ℕ) → Fits w64 (get_or x.self.juniors i 0) = λ i. search rules in
    let e = set-relate x.self.juniors x.a c.without.result (cut (senior x.self.juniors) x.a x.b) n (λ i. (m i).fits) (search rules) (search rules)
    (λ y. c.without.ensures y ∙ rw (eq-eqb x.a x.a refl))
    (λ z y l q. rw (ne_eqb z x.a q) (sym (and_true _))) in
    λ i. record { used = x.self.used; juniors = e i }
