-- How a policy is made and changed: the empty policy, and the policy with another order of roles, with other roles of users, of permissions.
use Rattle.std.specs.Prelude.{ℕ, set, replicate}
use Rattle.order.specs.declared.Order.{Order}
use Rattle.ranges.specs.Rows.{no_row}
use Rattle.policy.specs.declared.Members.{Members}
use Rattle.policy.specs.declared.Row.{Row}
use Rattle.policy.specs.declared.Table.{Table}
use Rattle.policy.specs.declared.Tables.{Tables}
use Rattle.policy.specs.declared.Ranges.{Ranges}
use Rattle.policy.specs.declared.Policy.{Policy}

-- the row that stands past the last of a table
abbrev pub empty_row : Row
empty_row =
    record { admin = record { 0 = 0 }; low = record { 0 = 0 }; high = record { 0 = 0 }; brackets = 0; needed = 0; barred = 0 }

abbrev pub empty_order : Order
empty_order = record { used = 0; juniors = replicate 64 0 }

abbrev pub empty_members : Members
empty_members = record { count = 0; roles = replicate 256 0 }

abbrev pub empty_table : Table
empty_table = record { count = 0; rows = replicate 64 empty_row }

abbrev pub empty_ranges : Ranges
empty_ranges = record { count = 0; rows = replicate 64 no_row }

abbrev pub empty_tables : Tables
empty_tables = record { assign = empty_table; revoke = empty_table; assignp = empty_table; revokep = empty_table }

-- "a policy with nothing in it"
unfoldable pub empty_policy : Policy
empty_policy =
    record {
      orders = record { roles = empty_order; admins = empty_order };
      people = record { users = empty_members; offices = replicate 256 0 };
      permissions = empty_members;
      tables = empty_tables;
      modify = empty_ranges;
    }

-- member a with the roles s
abbrev pub put_roles : Members → ℕ → ℕ → Members
put_roles m a s = record { count = m.count; roles = set m.roles a s }

-- the policy with another order of roles
abbrev pub with_roles : Policy → Order → Policy
with_roles p o =
    record {
      orders = record { roles = o; admins = p.orders.admins };
      people = p.people;
      permissions = p.permissions;
      tables = p.tables;
      modify = p.modify;
    }

-- the policy with other users
abbrev pub with_users : Policy → Members → Policy
with_users p m =
    record {
      orders = p.orders;
      people = record { users = m; offices = p.people.offices };
      permissions = p.permissions;
      tables = p.tables;
      modify = p.modify;
    }

-- the policy with other permissions
abbrev pub with_permissions : Policy → Members → Policy
with_permissions p m =
    record { orders = p.orders; people = p.people; permissions = m; tables = p.tables; modify = p.modify }
