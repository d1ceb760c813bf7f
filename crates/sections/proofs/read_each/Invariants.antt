use Rattle.std.proofs.Common.{◌≡◌, ℕ, length}
use Rattle.number.specs.Number.{Value}
use Rattle.number.specs.Run.{Step, run}
use Rattle.number.proofs.Runs.{Going}
use Rattle.sections.specs.Numbers.{count_at}
use Rattle.sections.specs.Each.{Reads, put_step}
use Rattle.sections.proofs.read_each.Given as goal

abbrev pub invariant-loop-i : goal.invariant-loop-i
invariant-loop-i g l =
    record {
      counted : count_at l.s (length l.fn.things) l.at ≡ Value l.count l.first;
      going : (item : ℕ → Step _) → Reads (goal.F-post g l.read) item
          → Going (put_step item) l.count (run (put_step item) l.count 0 l.first l.fn.things) l.i l.place l.things;
    }
