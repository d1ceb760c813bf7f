-- Assumes nothing.
use mathlib.Core.Path.{sym, ap, ◌∙◌}
use Prim.Native.Nat.{ℕ}
use native.Mathlib.Omega.{arith}
use borrow.Author.Tests.{le-ltb}
use lib.Dec.{ltb}
use Rattle.layout.proofs.Most.{always_enough}
use Rattle.writing.proofs.is_short.Goals as goal

pub returns-else-room-lt-ENOUGH : goal.returns-else-room-lt-ENOUGH
returns-else-room-lt-ENOUGH c =
    le-ltb _ _ c.if-room-lt-ENOUGH.false ∙ sym (le-ltb c.args.room _ (omega (arith, always_enough c.args.p c.requires, c.if-room-lt-ENOUGH.false)))

pub file_length-requires : goal.file_length-requires
file_length-requires c = c.requires.sizes

pub returns-then-room-lt-ENOUGH : goal.returns-then-room-lt-ENOUGH
returns-then-room-lt-ENOUGH c = ap (λ (n : ℕ). ltb c.args.room n) c.file_length.ensures
