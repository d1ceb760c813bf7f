use Rattle.ranges.proofs.Checks.{low_test}
use Rattle.ranges.proofs.Ranking.low_not_junior.Goals as goal

pub returns : goal.returns
returns c = low_test _ _ _ c.is_senior.ensures
