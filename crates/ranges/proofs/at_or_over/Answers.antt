use mathlib.Core.Path.{sym, ◌∙◌}
use mathlib.Core.Logic.{⊎_elim}
use borrow.Author.Rules.{rules}
use borrow.Author.Tests.{eq-eqb, ne_eqb}
use Rattle.sets.specs.Tests.{◌and◌, ◌or◌}
use Rattle.sets.proofs.Tests.{or_given, and_fails_l, and_fails_r}
use Rattle.ranges.proofs.at_or_over.Goals.{then-a-b, else-a-b}
use Rattle.ranges.proofs.at_or_over.Goals as goal

pub returns-then-same : goal.returns-then-same
unfolding ◌and◌ ◌or◌
returns-then-same c =
    let same = c.if-same.true in
    rw (eq-eqb _ _ same.0, same.1) (elim c.if-a-b.branch [ then-a-b w ↦ search rules | else-a-b w ↦ absurd (w.if-a-b.false same.0) ])

pub returns-else-same : goal.returns-else-same
returns-else-same c =
    c.is_senior.ensures ∙ sym (or_given _ _ (⊎_elim (λ h. and_fails_r _ _ h.1) (λ h. and_fails_l _ _ (ne_eqb _ _ h)) c.if-same.either))
