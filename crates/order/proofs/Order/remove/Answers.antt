use mathlib.Core.Path.{◌≡◌, sym, refl, ◌∙◌}
use Prim.Native.Nat.{ℕ}
use mir.Val.{Fits}
use mir.Syntax.{w64}
use lib.ListN.{length, get_or}
use borrow.Author.Tests.{eq-eqb, ne_eqb}
use Rattle.sets.specs.Tests.{◌and◌, ◌or◌, neg}
use Rattle.sets.proofs.Tests.{and_fails_r}
use Rattle.sets.specs.Sets.{has}
use Rattle.sets.proofs.Digits.{has_empty}
use Rattle.sets.proofs.Builders.{exactly_is}
use Rattle.order.proofs.Lists.{set-relate}
use Rattle.order.specs.Order.{senior}
use Rattle.order.specs.Effects.{removed}
use borrow.Author.Rules.{rules}
use Rattle.order.proofs.Order.remove.Goals as goal

pub returns : goal.returns
unfolding Rattle.order.specs.Effects.remove removed senior ◌and◌ ◌or◌ neg
returns c =
    let x = c.args in
    let r = c.dropped-juniors.result in
    let n : length r ≡ 64 = search rules in
    let m : (i : ℕ) → Fits w64 (get_or r i 0) = λ i. search rules in
    let e = set-relate r x.a 0 (removed (senior x.self.juniors) x.a) n (λ i. (m i).fits) (search rules) (search rules)
    (λ y. has_empty y ∙ rw (eq-eqb x.a x.a refl) (sym (and_fails_r (has (get_or x.self.juniors x.a 0) y) _ refl)))
    (λ z y l q. c.dropped-juniors.ensures.pair z y l ∙ rw (ne_eqb z x.a q)) in
    let u = exactly_is 64 c.without.result _ (search rules) c.without.ensures in
    λ i. record { used = u i; juniors = e i }
