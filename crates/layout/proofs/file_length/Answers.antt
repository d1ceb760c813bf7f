use native.Mathlib.Omega.{arith}
use Rattle.layout.proofs.Lengths.{policy_of}
use Rattle.layout.proofs.file_length.Goals as goal

pub returns : goal.returns
returns c =
    omega (
      arith,
      policy_of c.args.p,
      c.number_len-first.ensures,
      c.order_length-roles.ensures,
      c.order_length-admins.ensures,
      c.users_length-users.ensures,
      c.permissions_length-permissions.ensures,
      c.tables_length.ensures,
    )
