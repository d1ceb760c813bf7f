-- What a writing computes with, in one place: whoever unfolds `writing_opened` unfolds all that it names.
-- Assumes nothing.
use Prim.Native.Nat.{ℕ}
use Rattle.sets.specs.Sets.{has}
use Rattle.number.specs.Number.{groups_of, num_bytes}
use Rattle.number.specs.Run.{each}
use Rattle.layout.specs.Layout.{juniors_bytes, order_bytes, user_bytes, users_bytes, permissions_bytes}
use Rattle.layout.specs.Layout.{ends_bytes, condition_bytes, row_bytes, modify_bytes, rows_bytes}
use Rattle.layout.specs.Layout.{ranges_bytes, table_of, tables_bytes, sections_bytes, policy_bytes}

sections_opened : ℕ
unfolding has groups_of num_bytes each juniors_bytes order_bytes user_bytes users_bytes permissions_bytes sections_bytes
sections_opened = 0

unfoldable pub writing_opened : ℕ
unfolding sections_opened ends_bytes condition_bytes row_bytes modify_bytes rows_bytes ranges_bytes table_of tables_bytes policy_bytes
writing_opened = 0
