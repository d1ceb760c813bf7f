-- The laws of tests joined: how each is shown, and what each tells.
-- Assumes nothing.
use mathlib.Core.Path.{◌≡◌, refl, sym, ◌∙◌}
use mathlib.Core.Logic.{◌⊎◌, inl, inr}
use mathlib.Core.Bool.{Bool, true, false, not, true≢false}
use Prim.Native.Nat.{ℕ}
use lib.Dec.{eqb}
use borrow.Author.Tests.{eq-eqb, eqb-true}
use Rattle.sets.specs.Tests.{◌and◌, ◌or◌, neg, ◌implies◌, ◌iff◌}

-- by cases on a test, with the equation
pub by_test {ℓ} : {C : Type ℓ} (b : Bool) → (b ≡ true → C) → (b ≡ false → C) → C
by_test true f g = f refl
by_test false f g = g refl

pub clash {ℓ} : {C : Type ℓ} {b : Bool} → b ≡ true → b ≡ false → C
clash t s = absurd (true≢false (sym t ∙ s))

-- a test that cannot pass fails
pub not_so : (b : Bool) → (b ≡ true → ⊥) → b ≡ false
not_so true f = absurd (f refl)
not_so false f = refl

-- two tests that pass together are one
pub same_test : (a b : Bool) → (a ≡ true → b ≡ true) → (b ≡ true → a ≡ true) → a ≡ b
same_test true b f g = sym (f refl)
same_test false true f g = g refl
same_test false false f g = refl

-- the code's `!` is `neg`
pub not_neg : (b : Bool) → not b ≡ neg b
unfolding neg
not_neg true = refl
not_neg false = refl

pub eqb_sym : (m n : ℕ) → eqb m n ≡ eqb n m
eqb_sym m n = same_test (eqb m n) (eqb n m) (λ t. eq-eqb n m (sym (eqb-true m n t))) (λ t. eq-eqb m n (sym (eqb-true n m t)))

-- ---- and
pub and_i : (a b : Bool) → a ≡ true → b ≡ true → (a and b) ≡ true
unfolding ◌and◌
and_i a b s t = rw (s, t)

pub and_l : (a b : Bool) → (a and b) ≡ true → a ≡ true
unfolding ◌and◌
and_l true b t = refl
and_l false b t = t

pub and_r : (a b : Bool) → (a and b) ≡ true → b ≡ true
unfolding ◌and◌
and_r true b t = t
and_r false b t = clash t refl

pub and_given : (a b : Bool) → a ≡ true → (a and b) ≡ b
unfolding ◌and◌
and_given a b t = rw t

pub and_true : (a : Bool) → (a and true) ≡ a
unfolding ◌and◌
and_true true = refl
and_true false = refl

pub and_fails_l : (a b : Bool) → a ≡ false → (a and b) ≡ false
unfolding ◌and◌
and_fails_l a b t = rw t

pub and_fails_r : (a b : Bool) → b ≡ false → (a and b) ≡ false
unfolding ◌and◌
and_fails_r true b t = t
and_fails_r false b t = refl

pub and_comm : (a b : Bool) → (a and b) ≡ (b and a)
unfolding ◌and◌
and_comm true true = refl
and_comm true false = refl
and_comm false true = refl
and_comm false false = refl

-- ---- or
pub or_l : (a b : Bool) → a ≡ true → (a or b) ≡ true
unfolding ◌or◌
or_l a b t = rw t

pub or_r : (a b : Bool) → b ≡ true → (a or b) ≡ true
unfolding ◌or◌
or_r true b t = refl
or_r false b t = t

pub or_cases : (a b : Bool) → (a or b) ≡ true → (a ≡ true) ⊎ (b ≡ true)
unfolding ◌or◌
or_cases true b t = inl refl
or_cases false b t = inr t

pub or_given : (a b : Bool) → a ≡ false → (a or b) ≡ b
unfolding ◌or◌
or_given a b t = rw t

pub or_false : (a : Bool) → (a or false) ≡ a
unfolding ◌or◌
or_false true = refl
or_false false = refl

pub or_fails : (a b : Bool) → a ≡ false → b ≡ false → (a or b) ≡ false
unfolding ◌or◌
or_fails a b s t = rw (s, t)

pub or_fails_l : (a b : Bool) → (a or b) ≡ false → a ≡ false
unfolding ◌or◌
or_fails_l true b t = t
or_fails_l false b t = refl

pub or_fails_r : (a b : Bool) → (a or b) ≡ false → b ≡ false
unfolding ◌or◌
or_fails_r true b t = clash refl t
or_fails_r false b t = t

pub or_assoc : (a b c : Bool) → ((a or b) or c) ≡ (a or (b or c))
unfolding ◌or◌
or_assoc true b c = refl
or_assoc false b c = refl

-- ---- neg
pub neg_i : (a : Bool) → a ≡ false → neg a ≡ true
unfolding neg
neg_i a t = rw t

pub neg_e : (a : Bool) → neg a ≡ true → a ≡ false
unfolding neg
neg_e true t = sym t
neg_e false t = refl

pub neg_fails : (a : Bool) → a ≡ true → neg a ≡ false
unfolding neg
neg_fails a t = rw t

pub neg_false : (a : Bool) → neg a ≡ false → a ≡ true
unfolding neg
neg_false true t = refl
neg_false false t = sym t

pub neg-neg : (a : Bool) → neg (neg a) ≡ a
unfolding neg
neg-neg true = refl
neg-neg false = refl

-- ---- implies
pub implies_i : (a b : Bool) → (a ≡ true → b ≡ true) → (a implies b) ≡ true
unfolding ◌implies◌
implies_i true b f = f refl
implies_i false b f = refl

pub implies_e : (a b : Bool) → (a implies b) ≡ true → a ≡ true → b ≡ true
unfolding ◌implies◌
implies_e true b t s = t
implies_e false b t s = clash s refl

pub implies_given : (a b : Bool) → a ≡ true → (a implies b) ≡ b
unfolding ◌implies◌
implies_given a b t = rw t

pub implies_not : (a b : Bool) → a ≡ false → (a implies b) ≡ true
unfolding ◌implies◌
implies_not a b t = rw t

-- it fails exactly where the first passes and the second does not
pub implies-neg : (a b : Bool) → (a implies b) ≡ neg (a and neg b)
unfolding ◌implies◌ ◌and◌ neg
implies-neg true true = refl
implies-neg true false = refl
implies-neg false b = refl

pub implies-and : (a b c : Bool) → (a implies (b and c)) ≡ ((a implies b) and (a implies c))
unfolding ◌implies◌ ◌and◌
implies-and true b c = refl
implies-and false b c = refl

-- ---- iff
pub iff_e : (a b : Bool) → (a iff b) ≡ true → a ≡ b
unfolding ◌iff◌
iff_e true true t = refl
iff_e true false t = sym t
iff_e false true t = t
iff_e false false t = refl

pub iff_i : (a b : Bool) → a ≡ b → (a iff b) ≡ true
unfolding ◌iff◌
iff_i true true t = refl
iff_i true false t = sym t
iff_i false true t = t
iff_i false false t = refl
