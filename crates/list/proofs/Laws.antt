-- A number's digits in a line are those of the library, and so is a line what four numbers, spaces and an end give; and a field by how many
-- digits it has.
-- Assumes nothing.
use Prim.Native.Nat.{ℕ, ◌+◌, ◌/◌, ◌%◌, ◌<◌, ◌≤◌}
use mathlib.Core.Path.{◌≡◌, sym, ap, ◌∙◌}
use mathlib.Core.Logic.{⊎_elim}
use mathlib.Core.List.{[], ◌∷◌, ◌++◌, append_assoc}
use native.Mathlib.Omega.{arith}
use borrow.Author.Tests.{lt-ltb, le-ltb}
use lib.ListN.{length}
use Rattle.std.specs.Fmt.{decimal as library_decimal}
use Rattle.std.proofs.lemmas.Fmt.{decimal_digit, decimal_step}
use Rattle.sets.proofs.Digits.{lt_or_le}
use Rattle.list.specs.Lines.{decimal, field, line}

one : (x : ℕ) → x < 10 → decimal x ≡ library_decimal x
unfolding decimal
one x h = rw (lt-ltb x 10 h) (sym (decimal_digit x h))

two : (x : ℕ) → 10 ≤ x → x < 100 → decimal x ≡ library_decimal x
unfolding decimal
two x h k =
    let d : x / 10 < 10 = omega arith in
    rw (le-ltb x 10 h, lt-ltb x 100 k) (sym (decimal_step x h (omega arith) ∙ rw (decimal_digit (x / 10) d)))

three : (x : ℕ) → 100 ≤ x → x < 256 → decimal x ≡ library_decimal x
unfolding decimal
three x h k =
    let l : 10 ≤ x = omega arith in
    let m : 10 ≤ x / 10 = omega arith in
    let d : x / 10 / 10 < 10 = omega arith in
    let e : x / 10 / 10 ≡ x / 100 = omega arith in
    rw (le-ltb x 10 l, le-ltb x 100 h)
    (sym (decimal_step x l (omega arith) ∙ rw (decimal_step (x / 10) m (omega arith), decimal_digit (x / 10 / 10) d, e)))

pub decimal_is : (x : ℕ) → x < 256 → decimal x ≡ library_decimal x
decimal_is x h =
    ⊎_elim (λ k. one x k) (λ k. ⊎_elim (λ m. two x k m) (λ m. three x m h) (lt_or_le x 100)) (lt_or_le x 10)

pub line_is : (user kind a b : ℕ) → user < 256 → kind < 256 → a < 256 → b < 256
    → line user kind a b
    ≡ library_decimal user ++ (32 ∷ (library_decimal kind ++ (32 ∷ (library_decimal a ++ (32 ∷ (library_decimal b ++ (10 ∷ [])))))))
unfolding line field
line_is user kind a b hu hk ha hb = rw (decimal_is user hu, decimal_is kind hk, decimal_is a ha, decimal_is b hb) (simp append_assoc)

-- a field by how many digits its number has: at most four bytes, with the end
module _ (x end : ℕ) where
  pub field_one : x < 10 → field x end ≡ (48 + x) ∷ end ∷ []
  unfolding field decimal
  field_one h = rw (lt-ltb x 10 h)

  pub field_two : 10 ≤ x → x < 100 → field x end ≡ (48 + x / 10) ∷ (48 + x % 10) ∷ end ∷ []
  unfolding field decimal
  field_two h k = rw (le-ltb x 10 h, lt-ltb x 100 k)

  pub field_three : 100 ≤ x → field x end ≡ (48 + x / 100) ∷ (48 + x / 10 % 10) ∷ (48 + x % 10) ∷ end ∷ []
  unfolding field decimal
  field_three h = let l : 10 ≤ x = omega arith in rw (le-ltb x 10 l, le-ltb x 100 h)

  pub field_most : length (field x end) ≤ 4
  field_most =
      ⊎_elim (λ h. omega (arith, ap length (field_one h)))
      (λ h. ⊎_elim (λ k. omega (arith, ap length (field_two h k))) (λ k. omega (arith, ap length (field_three k))) (lt_or_le x 100))
      (lt_or_le x 10)
