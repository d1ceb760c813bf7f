-- By kind: what a test finds of every kind, or of every kind with its row of the code's table, it finds of every number; a number that is none
-- of 1 to 8 has no kind; and a request is answered by the kind that the code finds of its number.
-- Assumes nothing.
use mathlib.Core.Path.{◌≡◌, refl, sym, ap, ◌∙◌}
use mathlib.Core.Logic.{◌⊎◌, inl, inr, ⊎_elim}
use mathlib.Core.Bool.{Bool, true, false}
use mathlib.Core.List.{List, [], ◌∷◌}
use Prim.Native.Nat.{ℕ, zero, suc, ◌<◌}
use native.Mathlib.Omega.{arith}
use lib.ListN.{get_or, get_or-eq_default}
use Rattle.std.specs.Prelude.{Option, Some, None, Ok, Err}
use Rattle.std.specs.Option.{ok_or}
use Rattle.policy.specs.declared.Policy.{Policy}
use Rattle.policy.specs.declared.Refusal.{Refusal}
use Rattle.policy.specs.declared.Refusal.TheVariants.{UnknownKind}
use Rattle.policy.specs.Outcome.{refused}
use Rattle.requests.specs.declared.Request.{Request}
use Rattle.requests.specs.Requests.{answer_to, decide}
use Rattle.sets.specs.Tests.{◌and◌}
use Rattle.sets.proofs.Tests.{clash, and_l, and_r}
use Rattle.requests.specs.declared.Kind.{Kind}
use Rattle.requests.specs.Kinds.{kinds, kind_of}
use Rattle.requests.specs.Numbers.{NUMBERS, table_row}

-- ---- one test for the whole table: a kind and its row

unfoldable pub every : (Option Kind → ℕ → Bool) → List (Option Kind) → List ℕ → Bool
every f [] [] = true
every f [] (n ∷ l) = false
every f (k ∷ m) [] = false
every f (k ∷ m) (n ∷ l) = f k n and every f m l

-- the kind and the row at k pass; and where none stands there, what is taken for them does
in_lists : (f : Option Kind → ℕ → Bool) (m : List (Option Kind)) (l : List ℕ) (c : Option Kind) (d : ℕ) → every f m l ≡ true
    → f c d ≡ true → (k : ℕ) → f (get_or m k c) (get_or l k d) ≡ true
unfolding every
in_lists f [] [] c d t e k = e
in_lists f [] (n ∷ l) c d t e k = clash t refl
in_lists f (x ∷ m) [] c d t e k = clash t refl
in_lists f (x ∷ m) (n ∷ l) c d t e zero = and_l _ _ t
in_lists f (x ∷ m) (n ∷ l) c d t e (suc k) = in_lists f m l c d (and_r _ _ t) e k

pub each_kind : (f : Option Kind → ℕ → Bool) → every f kinds NUMBERS ≡ true → (k : ℕ) → f (kind_of k) (table_row k) ≡ true
unfolding every NUMBERS table_row
each_kind f t k = in_lists f kinds NUMBERS None 2 t (and_l _ _ t) k

-- ---- a number that is none of 1 to n, each of them ruled out in turn

abbrev pub NoneUpTo : ℕ → ℕ → Type 0
NoneUpTo zero k = Unit
NoneUpTo (suc n) k = NoneUpTo n k × (k ≡ suc n → ⊥)

beyond : (n k : ℕ) → NoneUpTo n k → (k ≡ 0) ⊎ (n < k)
beyond zero zero r = inl refl
beyond zero (suc k) r = inr (omega arith)
beyond (suc n) k r = ⊎_elim (λ z. inl z) (λ l. inr (further l r.1)) (beyond n k r.0)
  where
    further : n < k → (k ≡ suc n → ⊥) → suc n < k
    further l d = omega arith

pub rest_none : (k : ℕ) → NoneUpTo 8 k → kind_of k ≡ None
rest_none k r = ⊎_elim (λ z. ap kind_of z) (λ l. get_or-eq_default kinds None l) (beyond 8 k r)

-- ---- a request's answer by its kind, as the code finds the kind of its number
module _ (p : Policy) (q : Request) where
  pub by_kind : {found : Kind} (k : Kind) → Ok found ≡ ok_or (kind_of q.kind) UnknownKind → found ≡ k
      → answer_to (Some k) p q.officer q.a q.b ≡ decide p q
  unfolding decide
  by_kind k e h = ap (λ (o : Option Kind). answer_to o p q.officer q.a q.b) (is_some (kind_of q.kind) (ap Ok (sym h) ∙ e))
    where
      is_some : (o : Option Kind) → Ok k ≡ ok_or o UnknownKind → Some k ≡ o
      is_some None t = cc
      is_some (Some j) t = cc

  pub no_kind : {r : Refusal} → Err r ≡ ok_or (kind_of q.kind) UnknownKind → refused p 1 ≡ decide p q
  unfolding decide
  no_kind {r} e = ap (λ (o : Option Kind). answer_to o p q.officer q.a q.b) (is_none (kind_of q.kind) e)
    where
      is_none : (o : Option Kind) → Err r ≡ ok_or o UnknownKind → None ≡ o
      is_none None t = refl
      is_none (Some j) t = cc
