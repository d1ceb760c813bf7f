use mathlib.Core.Path.{◌≡◌, refl, ◌∙◌}
use Prim.Native.Nat.{ℕ}
use mir.Val.{Fits}
use mir.Syntax.{w64}
use lib.ListN.{length, get_or}
use borrow.Author.Tests.{eq-eqb, ne_eqb}
use Rattle.sets.specs.Tests.{◌and◌}
use Rattle.sets.proofs.Tests.{eqb_sym, or_assoc, or_false}
use Rattle.sets.proofs.Builders.{exactly_is}
use Rattle.order.proofs.Lists.{set-relate}
use Rattle.order.specs.Order.{senior, at_least}
use Rattle.order.specs.Effects.{created}
use borrow.Author.Rules.{rules}
use Rattle.order.proofs.Order.create.Goals as goal

pub returns : goal.returns
unfolding Rattle.order.specs.Effects.create created senior at_least ◌and◌
returns c =
    let x = c.args in
    let s = c.spread-juniors in
    let o = c.only.ensures in
    let n : length s.result ≡ 64 = search rules in
    let m : (i : ℕ) → Fits w64 (get_or s.result i 0) = λ i. search rules in
    let e = set-relate s.result x.n c.union.result (created (senior x.self.juniors) x.n x.a x.b) n (λ i. (m i).fits) (search rules) (search rules)
    (λ y. c.union.ensures y ∙ rw (s.ensures.pair x.n y (search rules), o y, c.with-below.ensures y, eqb_sym y x.b, eq-eqb x.n x.n refl) (or_assoc _ _ _))
    (λ z y l q. s.ensures.pair z y l ∙ rw (o y, ne_eqb z x.n q, or_false)) in
    let u = exactly_is 64 c.with.result _ (search rules) c.with.ensures in
    λ i. record { used = u i; juniors = e i }
