use Rattle.ranges.proofs.Checks.{capsule_test}
use Rattle.ranges.proofs.Ranking.not_encapsulated.Goals as goal

pub returns : goal.returns
returns c = capsule_test _ _ _ _ c.is_encapsulated.ensures
