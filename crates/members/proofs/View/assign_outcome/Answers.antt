use Rattle.policy.proofs.Outcomes.{first_that_holds}
use Rattle.members.specs.Rules.{assign_rules}
use Rattle.members.proofs.View.assign_outcome.Goals as goal

pub returns-then-is_unknown : goal.returns-then-is_unknown
unfolding assign_rules
returns-then-is_unknown c = search first_that_holds depth 12

pub returns-then-not-is_covered : goal.returns-then-not-is_covered
unfolding assign_rules
returns-then-not-is_covered c = search first_that_holds depth 12

pub returns-then-not-is_granted : goal.returns-then-not-is_granted
unfolding assign_rules
returns-then-not-is_granted c = search first_that_holds depth 12

pub returns-then-contains : goal.returns-then-contains
unfolding assign_rules
returns-then-contains c = search first_that_holds depth 12

pub returns : goal.returns
unfolding assign_rules
returns c = search first_that_holds depth 12
