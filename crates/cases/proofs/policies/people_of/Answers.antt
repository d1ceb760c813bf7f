use Rattle.cases.proofs.Laws.{pads}
use Rattle.cases.proofs.policies.people_of.Goals as goal

pub returns : goal.returns
returns c =
    let e = pads 256 c.args.firsts.now _ c.copy_from_slice.ensures.after in
    λ i. record { users = c.args.users; offices = e i }
