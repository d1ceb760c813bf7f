use mathlib.Core.Path.{refl, sym, ◌∙◌}
use Rattle.number.proofs.read_number.Goals.{then-is_long-via-then-is_long, then-is_long-via-else-is_long+then-is_over}
use native.Mathlib.Omega.{arith}
use Rattle.sets.proofs.Tests.{or_l, or_r}
use Rattle.number.proofs.Reader.{read_ended, read_bad, read_good}
use Rattle.number.proofs.read_number.Goals as goal

pub returns-then-end-last : goal.returns-then-end-last
returns-then-end-last c = read_ended c.read_groups-last.ensures c.if-end-last.true

pub returns-then-is_long : goal.returns-then-is_long
returns-then-is_long c =
    read_bad c.read_groups-last.ensures c.if-end-last.false c.from-b.ensures refl
    (elim c.then-is_long.branch [
      | then-is_long-via-then-is_long w ↦ or_l _ _ (sym c.is_long.ensures ∙ w.if-is_long.true)
      | then-is_long-via-else-is_long+then-is_over w ↦ or_r _ _ (sym w.is_over.ensures ∙ w.if-is_over.true)
    ])

pub overflow_mul-result : goal.overflow_mul-result
overflow_mul-result c =
    let long = sym c.is_long.ensures ∙ c.if-is_long.false in
    let over = sym c.is_over.ensures ∙ c.if-is_over.false in
    let read = read_good c.read_groups-last.ensures c.if-end-last.false c.from-b.ensures refl long over in
    omega (arith, read.1)

pub overflow_add-result : goal.overflow_add-result
overflow_add-result c =
    let long = sym c.is_long.ensures ∙ c.if-is_long.false in
    let over = sym c.is_over.ensures ∙ c.if-is_over.false in
    let read = read_good c.read_groups-last.ensures c.if-end-last.false c.from-b.ensures refl long over in
    omega (arith, read.1)

pub returns : goal.returns
returns c =
    let long = sym c.is_long.ensures ∙ c.if-is_long.false in
    let over = sym c.is_over.ensures ∙ c.if-is_over.false in
    let read = read_good c.read_groups-last.ensures c.if-end-last.false c.from-b.ensures refl long over in
    read.0
