use Rattle.layout.specs.Layout.{ends_bytes}
use Rattle.writers.proofs.Chains.{chains}
use Rattle.writers.proofs.write_ends.Goals as goal

pub put_number-a-requires : goal.put_number-a-requires
unfolding ends_bytes
put_number-a-requires c = search chains

pub put_number-b-requires : goal.put_number-b-requires
unfolding ends_bytes
put_number-b-requires c = search chains

pub put_number-requires : goal.put_number-requires
unfolding ends_bytes
put_number-requires c = search chains

pub shape_of-out : goal.shape_of-out
shape_of-out c = search chains

pub returns : goal.returns
unfolding ends_bytes
returns c = search chains
