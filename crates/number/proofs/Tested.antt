-- A number that has to pass a test: what a reader of one answers, and what such a number is.
-- Assumes nothing.
use Prim.Native.Nat.{ℕ, ◌+◌, ◌^◌, ◌<◌, ◌≤◌}
use mathlib.Core.Path.{◌≡◌, refl, sym, ◌∙◌}
use mathlib.Core.Logic.{◌⊎◌, inl, inr, ⊎_elim}
use mathlib.Core.Bool.{Bool, true, false}
use mathlib.Core.List.{List}
use native.Mathlib.Omega.{arith}
use lib.ListN.{length}
use Rattle.sets.specs.Tests.{pick}
use Rattle.number.specs.Number.{num_at, num_bytes, tested}
use Rattle.number.specs.Number.{Num}
use Rattle.number.specs.Number.{Value, Refused}
use Rattle.number.proofs.Parts.{Stands}
use Rattle.number.proofs.Numbers.{num_next, refused_next}
use Rattle.number.proofs.RoundTrip.{read_written}

-- ---- what a reader answers that has read n, which is m, where it passes the test
pub tested_good : (t : ℕ → Bool) (at : ℕ) {n m : Num} → n ≡ m → {x next : ℕ} → n ≡ Value x next → t x ≡ true → Value x next ≡ tested t at m
tested_good t at q e w = let r = sym q ∙ e in rw (r, w)

-- ---- a number that passed: it is that number, and passes the test
pub tested_was : (t : ℕ → Bool) (at : ℕ) (m : Num) {x e : ℕ} → tested t at m ≡ Value x e → (m ≡ Value x e) × (t x ≡ true)
tested_was t at (Value y k) {x} {e} q = was (t y) refl q
  where
    was : (b : Bool) → t y ≡ b → pick b (Value y k) (Refused 22 at) ≡ Value x e → (Value y k ≡ Value x e) × (t x ≡ true)
    was true w q = (q, let z : x ≡ y = cc in rw z w)
    was false w q = absurd (let z : ◌≡◌ {A = ℕ} 0 1 = cc in omega arith)
tested_was t at (Refused c p) q = absurd (let z : ◌≡◌ {A = ℕ} 0 1 = cc in omega arith)

-- ---- one that was refused: it was refused already, or its test gave 22
pub tested-refused : (t : ℕ → Bool) (at : ℕ) (m : Num) {c p : ℕ} → tested t at m ≡ Refused c p → (m ≡ Refused c p) ⊎ ((c ≡ 22) × (p ≡ at))
tested-refused t at (Value y k) {c} {p} q = was (t y) q
  where
    was : (b : Bool) → pick b (Value y k) (Refused 22 at) ≡ Refused c p → (Value y k ≡ Refused c p) ⊎ ((c ≡ 22) × (p ≡ at))
    was true q = inl q
    was false q = inr ((cc), (cc))
tested-refused t at (Refused c p) q = inl q

module _ (t : ℕ → Bool) (s : List ℕ) (at : ℕ) where
  -- it ends past where it starts, and within the input
  pub tested_next : {x e : ℕ} → tested t at (num_at s at) ≡ Value x e → (at < e) × (e ≤ length s)
  tested_next q = num_next s at (tested_was t at (num_at s at) q).0

  -- and a refusal's place is within the input
  pub tested_place : {c p : ℕ} → at ≤ length s → tested t at (num_at s at) ≡ Refused c p → p ≤ length s
  tested_place h q = ⊎_elim (λ r. refused_next s at h r) (λ r. omega (arith, r.1)) (tested-refused t at (num_at s at) q)

  -- a number's bytes are read as that number, where it passes the test
  pub tested_written : (x : ℕ) → x < 2 ^ 64 → t x ≡ true → Stands s at (num_bytes x) → tested t at (num_at s at) ≡ Value x (at + length (num_bytes x))
  tested_written x h w b = sym (tested_good t at refl (read_written x h b) w)
