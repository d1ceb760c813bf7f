-- What is known of a site before a change.
use Rattle.order.specs.Order.{InUse}
use Rattle.ranges.specs.Rows.{SoundRows}
use Rattle.hierarchy.specs.declared.Site.{Site}
use Rattle.hierarchy.specs.Rules.{over}

-- pairs stand between roles in use, and every range is sound: so it is in every policy that was read, and after every request
pub record SoundSite (s : Site) : Type 0 where
  pub in_use : InUse s.roles.used (over s)
  pub rows : SoundRows s.roles.used (over s) s.modify.count s.modify.rows
