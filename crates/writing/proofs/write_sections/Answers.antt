use Rattle.layout.specs.Layout.{sections_bytes}
use Rattle.writers.proofs.Chains.{chains}
use Rattle.writing.proofs.write_sections.Goals as goal

pub put_number-first-requires : goal.put_number-first-requires
unfolding sections_bytes
put_number-first-requires c = search chains

pub write_order-second-requires : goal.write_order-second-requires
unfolding sections_bytes
write_order-second-requires c = search chains

pub write_order-third-requires : goal.write_order-third-requires
unfolding sections_bytes
write_order-third-requires c = search chains

pub write_users-fourth-requires : goal.write_users-fourth-requires
unfolding sections_bytes
write_users-fourth-requires c = search chains

pub write_permissions-requires : goal.write_permissions-requires
unfolding sections_bytes
write_permissions-requires c = search chains

pub shape_of-out : goal.shape_of-out
shape_of-out c = search chains

pub returns : goal.returns
unfolding sections_bytes
returns c = search chains
