-- Assumes nothing.
use Rattle.policy.proofs.Outcomes.{first_that_holds}
use Rattle.faults.proofs.ranges_fault.Goals as goal

pub returns-then-some_low : goal.returns-then-some_low
returns-then-some_low c = rw (← c.of-ranking.ensures.0) (search first_that_holds depth 12)

pub returns-then-some_open : goal.returns-then-some_open
returns-then-some_open c = rw (← c.of-ranking.ensures.0) (search first_that_holds depth 12)

pub returns-then-two_overlap : goal.returns-then-two_overlap
returns-then-two_overlap c = rw (← c.of-ranking.ensures.0) (search first_that_holds depth 12)

pub returns : goal.returns
returns c = rw (← c.of-ranking.ensures.0) (search first_that_holds depth 12)
