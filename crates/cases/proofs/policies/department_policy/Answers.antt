use Rattle.requests.specs.Examples.{F}
use Rattle.cases.proofs.policies.department_policy.Goals as goal

pub returns : goal.returns
unfolding F
returns c =
    rw (
      c.one_row-p.ensures,
      c.policy_from-p.ensures,
      c.department_ranges.ensures,
      c.department_orders.ensures,
      c.people_of-people.ensures,
      c.members_of-users.ensures,
    )
