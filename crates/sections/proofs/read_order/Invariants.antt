use mathlib.Core.Path.{◌≡◌}
use Rattle.number.specs.Number.{Value}
use Rattle.number.proofs.Runs.{Going}
use Rattle.sections.specs.Numbers.{set_at}
use Rattle.sections.specs.Sections.{junior_step, juniors_at}
use Rattle.sections.proofs.read_order.Given as goal

abbrev pub invariant-loop-i : goal.invariant-loop-i
invariant-loop-i l = (set_at l.s l.all l.at ≡ Value l.used l.first) × Going (junior_step l.s l.used) 64 (juniors_at l.s l.used l.first) l.i l.place l.juniors
