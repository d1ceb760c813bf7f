use Rattle.layout.specs.Layout.{user_bytes}
use Rattle.writers.proofs.Chains.{chains}
use Rattle.writers.proofs.write_user.Goals as goal

pub put_number-mid-requires : goal.put_number-mid-requires
unfolding user_bytes
put_number-mid-requires c = search chains

pub put_number-requires : goal.put_number-requires
unfolding user_bytes
put_number-requires c = search chains

pub shape_of-out : goal.shape_of-out
shape_of-out c = search chains

pub returns : goal.returns
unfolding user_bytes
returns c = search chains
