use Rattle.policy.specs.Build.{empty_policy}
use Rattle.policy.proofs.empty_policy.Goals as goal

pub returns : goal.returns
unfolding empty_policy
returns c = rw (c.empty_ranges.ensures, c.empty_table-table.ensures)
