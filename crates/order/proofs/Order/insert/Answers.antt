use mathlib.Core.Path.{◌≡◌, ◌∙◌}
use Prim.Native.Nat.{ℕ}
use mir.Val.{Fits}
use mir.Syntax.{w64}
use lib.ListN.{length, get_or}
use Rattle.sets.proofs.Tests.{eqb_sym}
use Rattle.order.proofs.Lists.{pairs_is}
use Rattle.order.specs.Order.{senior, at_least}
use Rattle.order.specs.Effects.{inserted}
use borrow.Author.Rules.{rules}
use Rattle.order.proofs.Order.insert.Goals as goal

pub returns : goal.returns
unfolding Rattle.order.specs.Effects.insert inserted at_least senior
returns c =
    let x = c.args in
    let n : length c.spread.result ≡ 64 = search rules in
    let m : (i : ℕ) → Fits w64 (get_or c.spread.result i 0) = λ i. search rules in
    let e = pairs_is c.spread.result (inserted (senior x.self.juniors) x.a x.b) n (λ i. (m i).fits)
    (record { pair = λ z y l. c.spread.ensures.pair z y l ∙ rw (c.with-gained.ensures y, eqb_sym y x.b) }) in
    λ i. record { used = x.self.used; juniors = e i }
