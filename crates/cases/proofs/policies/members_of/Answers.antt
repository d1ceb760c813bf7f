use lib.ListN.{length}
use Rattle.cases.proofs.Laws.{pads}
use Rattle.cases.proofs.policies.members_of.Goals as goal

pub returns : goal.returns
returns c =
    let e = pads 256 c.args.firsts.now _ c.copy_from_slice.ensures.after in
    λ i. record { count = length c.args.firsts.now; roles = e i }
