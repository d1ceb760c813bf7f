use Rattle.policy.specs.Build.{empty_policy}
use Rattle.cases.proofs.policies.policy_from.Goals as goal

pub returns : goal.returns
unfolding empty_policy
returns c = rw c.empty_policy.ensures
