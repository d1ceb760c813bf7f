-- Demand 3, of the hierarchy: what carrying out a listed request leaves.
use Rattle.std.specs.Prelude.{◌≡◌, Bool, true, false, ℕ, ◌<◌}
use Rattle.sets.specs.Tests.{◌and◌}
use Rattle.sets.specs.Sets.{has, any}
use Rattle.order.specs.declared.Order.{Order}
use Rattle.order.specs.Order.{senior}
use Rattle.ranges.specs.Rows.{row_at, within, SoundRows}
use Rattle.policy.specs.Good.{GoodOrder}
use Rattle.hierarchy.specs.declared.Site.{Site}
use Rattle.hierarchy.specs.Rules.{over}

-- "both lie strictly inside one range this officer may modify": that of a row that the officer may use
unfoldable pub may_change : Site → ℕ → ℕ → Bool
may_change s x y =
    any s.modify.count (λ i. has s.usable (row_at s.modify.rows i).admin.0
    and (within (over s) (row_at s.modify.rows i) x and within (over s) (row_at s.modify.rows i) y))

-- what carrying out leaves: s is what the officer's request looked at, r the order after
pub record Kept (s : Site) (r : Order) : Type 0 where
  -- "leaves no cycle": the order is strict
  pub order : GoodOrder 64 r
  -- "every authority range encapsulated, no two overlapping in part"
  pub rows : SoundRows r.used (senior r.juniors) s.modify.count s.modify.rows
  -- "two roles keep their dominance unless both lie strictly inside one range this officer may modify", of roles there before and after
  pub dominance : (x y : ℕ) → has s.roles.used x ≡ true → has s.roles.used y ≡ true → has r.used x ≡ true → has r.used y ≡ true
      → may_change s x y ≡ false → senior r.juniors x y ≡ over s x y

-- the assessor's second question: x lies outside every range that the officer may modify
abbrev pub Outside : Site → ℕ → Type 0
Outside s x =
    (i : ℕ) → i < s.modify.count → has s.usable (row_at s.modify.rows i).admin.0 ≡ true
    → within (over s) (row_at s.modify.rows i) x ≡ false
