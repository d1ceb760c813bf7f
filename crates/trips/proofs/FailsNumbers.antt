-- When one number is refused: exactly if it fails (Fails of specs/Refusals.antt), whatever its test is.
-- Assumes nothing.
use Prim.Native.Nat.{ℕ, suc, ◌+◌}
use mathlib.Core.Path.{◌≡◌, refl, ◌∙◌}
use mathlib.Core.Logic.{◌↔◌}
use mathlib.Core.Bool.{Bool, true, false}
use mathlib.Core.List.{List}
use native.Mathlib.Omega.{arith}
use borrow.Author.Tests.{leb-true, leb-false, le-leb, lt-leb}
use lib.Dec.{leb}
use lib.ListN.{length}
use Rattle.sets.specs.Tests.{◌or◌, pick}
use Rattle.number.specs.Number.{byte, last_of, value_of, is_long, is_over, ends_with, num_at, tested}
use Rattle.number.specs.Number.{Num}
use Rattle.number.specs.Number.{Value, Refused}
use Rattle.sections.specs.Numbers.{set_at, count_at, member_at}
use Rattle.reading.specs.File.{one_at}
use Rattle.trips.specs.Refusals.{Fails, cut_short, malformed, unfit}
use Rattle.trips.specs.Refusals.{FirstFails, SetFails, CountFails, MemberFails}

module _ (s : List ℕ) (t : ℕ → Bool) (at : ℕ) {c p : ℕ} where
  -- 20 and 21: no number stands there
  none_fails : num_at s at ≡ Refused c p → Fails s t at c p
  unfolding num_at ends_with
  none_fails q = by (leb (length s) (at + n)) refl (is_long n b or is_over n b) refl q
    where
      n : ℕ
      n = last_of s at

      b : ℕ
      b = byte s at n

      by : (u : Bool) → leb (length s) (at + n) ≡ u → (v : Bool) → (is_long n b or is_over n b) ≡ v
          → pick u (Refused 20 (length s)) (pick v (Refused 21 at) (Value (value_of s at (suc n)) (at + n + 1)))
          ≡ Refused c p → Fails s t at c p
      by true x v y q = cut_short (leb-true (length s) (at + n) x) (cc) (cc)
      by false x true y q = malformed (leb-false (length s) (at + n) x) y (cc) (cc)
      by false x false y q = absurd (let z : ◌≡◌ {A = ℕ} 0 1 = cc in omega arith)

  -- and 22: the test fails
  fails : tested t at (num_at s at) ≡ Refused c p → Fails s t at c p
  fails q = by (num_at s at) refl q
    where
      unfit_here : {x next : ℕ} → num_at s at ≡ Value x next → (b : Bool) → t x ≡ b
          → pick b (Value x next) (Refused 22 at) ≡ Refused c p → Fails s t at c p
      unfit_here w true u q = absurd (let z : ◌≡◌ {A = ℕ} 0 1 = cc in omega arith)
      unfit_here w false u q = unfit w u (cc) (cc)

      by : (m : Num) → num_at s at ≡ m → tested t at m ≡ Refused c p → Fails s t at c p
      by (Value x next) w q = unfit_here w (t x) refl q
      by (Refused d k) w q = none_fails (w ∙ q)

  -- the other way: each of the three gives its refusal
  refused : Fails s t at c p → tested t at (num_at s at) ≡ Refused c p
  unfolding num_at ends_with
  refused (cut_short l c p) = rw (le-leb _ _ l, c, p)
  refused (malformed l u c p) = rw (lt-leb _ _ l, u, c, p)
  refused (unfit w u c p) = rw (w, u, c, p)

  -- a number is refused, with that number and place, exactly if it fails so
  pub number_refused : (tested t at (num_at s at) ≡ Refused c p) ↔ Fails s t at c p
  number_refused = (fails, refused)

-- the four kinds of number that are tested
module _ (s : List ℕ) {c p : ℕ} where
  -- the first number
  pub first_refused : (at : ℕ) → (one_at s at ≡ Refused c p) ↔ FirstFails s at c p
  unfolding one_at
  first_refused at = number_refused s _ at

  -- a set
  pub set-refused : (used at : ℕ) → (set_at s used at ≡ Refused c p) ↔ SetFails s used at c p
  unfolding set_at
  set-refused used at = number_refused s _ at

  -- a count, or brackets
  pub count-refused : (most at : ℕ) → (count_at s most at ≡ Refused c p) ↔ CountFails s most at c p
  unfolding count_at
  count-refused most at = number_refused s _ at

  -- what a row names
  pub member_refused : (used at : ℕ) → (member_at s used at ≡ Refused c p) ↔ MemberFails s used at c p
  unfolding member_at
  member_refused used at = number_refused s _ at
