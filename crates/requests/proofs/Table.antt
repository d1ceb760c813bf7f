-- The code's constant table: it says what `may_give` says, by one test computed over all its rows.
-- Assumes nothing.
use mathlib.Core.Path.{◌≡◌, refl, sym, ap, ◌∙◌}
use mathlib.Core.Logic.{⊎_elim}
use mathlib.Core.Bool.{Bool, true, false}
use mathlib.Core.List.{List, [], ◌∷◌}
use Prim.Native.Nat.{ℕ, ◌≤◌, ◌<◌}
use native.Mathlib.Omega.{arith}
use lib.Dec.{eqb, ltb}
use borrow.Author.Tests.{eqb-true, ne_eqb, ltb-true}
use Rattle.std.specs.Prelude.{Option}
use Rattle.sets.specs.Tests.{◌and◌, ◌or◌}
use Rattle.sets.specs.Sets.{has, set_of}
use Rattle.sets.proofs.Tests.{clash, and_l, and_r, or_fails}
use Rattle.sets.proofs.Digits.{has_beyond, lt_or_le}
use Rattle.sets.proofs.Builders.{set_of_lt, has-set_of}
use Rattle.requests.specs.declared.Kind.{Kind}
use Rattle.requests.specs.Kinds.{kind_of}
use Rattle.requests.specs.Numbers.{among, numbers, may_give, NUMBERS, table_row}
use Rattle.requests.proofs.ByKind.{every, each_kind}

-- each number of a list is below 10
below : List ℕ → Bool
below [] = true
below (n ∷ l) = ltb n 10 and below l

among_below : (n : ℕ) (l : List ℕ) → 10 ≤ n → below l ≡ true → among n l ≡ false
unfolding among below
among_below n [] h e = refl
among_below n (m ∷ l) h e = or_fails _ _ (ne_eqb n m (omega (arith, ltb-true m 10 (and_l _ _ e)))) (among_below n l h (and_r _ _ e))

-- a row is right: it is the set of the kind's numbers, and each of these is below 10
right : Option Kind → ℕ → Bool
right c row = eqb row (set_of 10 (λ n. among n (numbers c))) and below (numbers c)

row_right : (k : ℕ) → right (kind_of k) (table_row k) ≡ true
unfolding every right below numbers among NUMBERS set_of ◌and◌ ◌or◌
row_right k = each_kind right refl k

row_below : (k : ℕ) → below (numbers (kind_of k)) ≡ true
unfolding right
row_below k = and_r _ _ (row_right k)

-- the members of a row are the numbers that the kind may give
pub row_is : (k n : ℕ) → has (table_row k) n ≡ may_give k n
unfolding may_give right
row_is k n =
    ap (λ (s : ℕ). has s n) (eqb-true _ _ (and_l _ _ (row_right k)))
    ∙ ⊎_elim (λ l. has-set_of 10 _ n l)
    (λ l. has_beyond 10 _ n (set_of_lt 10 _) l ∙ sym (among_below n _ l (row_below k))) (lt_or_le n 10)

-- no number is 10 or more
pub given_below : (k n : ℕ) → may_give k n ≡ true → n < 10
unfolding may_give
given_below k n e = ⊎_elim (λ l. l) (λ l. clash e (among_below n _ l (row_below k))) (lt_or_le n 10)
