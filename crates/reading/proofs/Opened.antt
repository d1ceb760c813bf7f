-- What a reading computes with, in one place: whoever unfolds `reading_opened` unfolds all that it names.
-- Assumes nothing.
use Prim.Native.Nat.{ℕ}
use Rattle.ranges.proofs.Opened.{ranges_opened}
use Rattle.policy.specs.Outcome.{first}
use Rattle.number.specs.Number.{last_of, value_of, is_long, is_over, ends_with, num_at}
use Rattle.number.specs.Run.{run}
use Rattle.sections.specs.Numbers.{set_at, count_at, member_at}
use Rattle.sections.specs.Sections.{all_below, junior_step, juniors_at, order_at, user_step, people_at, member_step, members_at}
use Rattle.rows.specs.Rows.{range_at, condition_at, table_row_at, row_step, table_at, range_step, ranges_at}
use Rattle.faults.specs.Faults.{not_strict, some_low, some_open, two_overlap, fault}
use Rattle.reading.specs.File.{one_at, front_at, rest_at, judge, file_at, read_policy}

numbers_opened : ℕ
unfolding last_of value_of is_long is_over ends_with num_at run set_at count_at member_at one_at
numbers_opened = 0

sections_opened : ℕ
unfolding all_below junior_step juniors_at order_at user_step people_at member_step members_at
sections_opened = 0

tables_opened : ℕ
unfolding range_at condition_at table_row_at row_step table_at range_step ranges_at
tables_opened = 0

faults_opened : ℕ
unfolding ranges_opened not_strict some_low some_open two_overlap first fault
faults_opened = 0

unfoldable pub reading_opened : ℕ
unfolding numbers_opened sections_opened tables_opened faults_opened front_at rest_at judge file_at read_policy
reading_opened = 0
