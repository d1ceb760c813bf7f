use Prim.Native.Nat.{◌≤◌}
use Rattle.number.proofs.Runs.{Going}
use Rattle.sections.specs.Sections.{people, user_step, people_at}
use Rattle.sections.proofs.read_people.Given as goal

abbrev pub invariant-loop-i : goal.invariant-loop-i
invariant-loop-i l = (l.count ≤ 256) × Going (user_step l.s l.roles l.admins) l.count (people_at l.s l.roles l.admins l.at) l.i l.place (people l.count l.held l.offices)
