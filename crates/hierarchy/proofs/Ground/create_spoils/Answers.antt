-- Assumes nothing.
use mathlib.Core.Path.{sym, subst, ◌∙◌}
use Prim.Native.Nat.{ℕ, ◌<◌}
use Rattle.hierarchy.specs.Rules.{new_role}
use Rattle.hierarchy.proofs.Laws.{spoils-created, created_above}
use borrow.Author.Rules.{rules}
use Rattle.hierarchy.proofs.Ground.create_spoils.Goals as goal

pub create-after-requires : goal.create-after-requires
unfolding new_role
create-after-requires c = (subst (λ (n : ℕ). n < 64) (sym c.lowest_free-n.ensures) (search rules), search rules, search rules)

pub create-above-requires : goal.create-above-requires
unfolding new_role
create-above-requires c = (subst (λ (n : ℕ). n < 64) (sym c.lowest_free-n.ensures) (search rules), search rules, search rules)

pub of-requires : goal.of-requires
of-requires c = created_above c.args.self.now c.turned.ensures _ _ _ c.create-after.ensures c.create-above.ensures

pub returns : goal.returns
returns c = sym (spoils-created _ _ _ _ _ c.lowest_free-n.ensures (c.of.ensures.0 ∙ c.create-after.ensures) _ c.is_spoilt.ensures)
