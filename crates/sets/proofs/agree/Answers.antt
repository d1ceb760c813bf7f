use Rattle.sets.proofs.Builders.{agree_test}
use Rattle.sets.proofs.agree.Goals as goal

pub returns : goal.returns
returns c = agree_test 64 c.args.s c.args.t c.args.on c.ranges.s.fits c.ranges.t.fits
