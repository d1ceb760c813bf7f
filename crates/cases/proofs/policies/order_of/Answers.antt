use Rattle.cases.proofs.Laws.{pads}
use Rattle.cases.proofs.policies.order_of.Goals as goal

pub returns : goal.returns
returns c =
    let e = pads 64 c.args.firsts.now _ c.copy_from_slice.ensures.after in
    λ i. record { used = c.args.used; juniors = e i }
