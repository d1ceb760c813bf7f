-- The answer that the code's decision stands for, from what it makes of the explicit roles.
-- Assumes nothing.
use mathlib.Core.Path.{◌≡◌, sym, ap, ◌∙◌}
use Prim.Native.Nat.{ℕ}
use Rattle.std.specs.Prelude.{Result, Ok, Err, MatchResult}
use Rattle.std.specs.Result.{IsOkAnd}
use Rattle.policy.specs.declared.Policy.{Policy}
use Rattle.policy.specs.declared.Refusal.{Refusal}
use Rattle.policy.specs.declared.Change.{Change}
use Rattle.policy.specs.Outcome.{Refusals, first, answer}
use Rattle.policy.specs.Change.{changed, beside, decided}
use Rattle.policy.proofs.Changes.{decided-refused, decided-accepted}
use Rattle.members.specs.Rules.{Becomes}

-- d is the decision, r what becomes of the roles: d changes them for those after, or refuses as r does
module _ (p : Policy) (a : ℕ) (change : ℕ → Change) (plain : (roles : ℕ) → beside (change roles) ≡ 0) where
  pub decided_roles : (rules : Refusals) (after : ℕ) (r : Result ℕ Refusal) (d : Result Change Refusal) → Becomes rules after r
      → MatchResult r (λ roles. IsOkAnd d (λ c. c ≡ change roles)) (λ e. d ≡ Err e)
      → decided p a d ≡ answer p (first rules) (changed p a (change after)) 0
  decided_roles rules after (Ok roles) (Ok c) b m =
      let e : c ≡ change _ = m ∙ ap change b.1 in
      decided-accepted p a _ _ _ c (sym b.0) (ap (changed p a) e) (ap beside e ∙ plain _)
  decided_roles rules after (Ok roles) (Err e) b m = absurd m
  decided_roles rules after (Err e) d b m = rw m (decided-refused p a _ _ _ e b)
