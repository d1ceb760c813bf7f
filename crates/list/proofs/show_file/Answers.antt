use mathlib.Core.Path.{sym}
use Rattle.reading.proofs.Theorems.{accepted_good}
use Rattle.list.proofs.show_file.Goals as goal

pub show_users-requires : goal.show_users-requires
show_users-requires g c = rw c.read_policy.ensures.policy (accepted_good _ (sym c.in-Ok.ensures.how))
