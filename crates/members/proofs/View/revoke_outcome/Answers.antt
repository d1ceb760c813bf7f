use Rattle.policy.proofs.Outcomes.{first_that_holds}
use Rattle.members.specs.Rules.{revoke_rules}
use Rattle.members.proofs.View.revoke_outcome.Goals as goal

pub returns-then-is_unknown : goal.returns-then-is_unknown
unfolding revoke_rules
returns-then-is_unknown c = search first_that_holds depth 12

pub returns-then-not-is_covered : goal.returns-then-not-is_covered
unfolding revoke_rules
returns-then-not-is_covered c = search first_that_holds depth 12

pub returns-then-not-contains : goal.returns-then-not-contains
unfolding revoke_rules
returns-then-not-contains c = search first_that_holds depth 12

pub returns : goal.returns
unfolding revoke_rules
returns c = search first_that_holds depth 12
