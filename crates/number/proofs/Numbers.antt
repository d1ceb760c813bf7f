-- What num_at gives: a number whose last byte is good, or a refusal.
-- Assumes nothing.
use Prim.Native.Nat.{ℕ, suc, ◌+◌, ◌%◌, ◌^◌, ◌<◌, ◌≤◌}
use mathlib.Core.Path.{◌≡◌, refl, ap}
use mathlib.Core.Logic.{◌⊎◌, inl, inr, ⊎_elim}
use mathlib.Core.Bool.{Bool, true, false}
use mathlib.Core.List.{List}
use native.Mathlib.Nat.{mul-le-mul_right}
use native.Mathlib.Omega.{arith}
use borrow.Author.Tests.{lt-ltb, le-ltb, ltb-true, ltb-false, lt-leb, leb-false, eq-eqb, eqb-true, eqb-false}
use lib.Dec.{ltb, leb, eqb}
use lib.ListN.{length}
use Rattle.sets.specs.Tests.{◌or◌, pick}
use Rattle.sets.proofs.Tests.{by_test, clash, not_so, and_i, and_l, and_r, or_fails, or_fails_l, or_fails_r}
use Rattle.sets.proofs.Quantifiers.{least_is, least_le, least_below, least_at}
use Rattle.number.specs.Number.{byte, ends, last_of, value_of, is_long, is_over, ends_with, num_at}
use Rattle.number.specs.Number.{Value, Refused}
use Rattle.number.proofs.Values.{value_low, scale_most}

-- ---- the tests of the last byte

module _ (n b : ℕ) where
  pub not_long : (b ≡ 0 → n ≡ 0) → is_long n b ≡ false
  unfolding is_long
  not_long h =
      not_so _ (λ t. let z = ltb-true 0 n (and_l _ _ t) in let e = h (eqb-true b 0 (and_r _ _ t)) in omega arith)

  pub long_false : is_long n b ≡ false → b ≡ 0 → n ≡ 0
  unfolding is_long
  long_false t e =
      by_test (ltb 0 n) (λ p. clash (and_i _ _ p (eq-eqb b 0 e)) t) (λ p. omega (arith, ltb-false 0 n p))

  pub not_over : (n ≡ 9 → b ≤ 1) → is_over n b ≡ false
  unfolding is_over
  not_over h = not_so _ (λ t. let z = h (eqb-true n 9 (and_l _ _ t)) in omega (arith, ltb-true 1 b (and_r _ _ t)))

  pub over_false : is_over n b ≡ false → n ≡ 9 → b ≤ 1
  unfolding is_over
  over_false t e = by_test (ltb 1 b) (λ p. clash (and_i _ _ (eq-eqb n 9 e) p) t) (λ p. ltb-false 1 b p)

-- ---- a number that is good, with m bytes at most before its last, which stands n places past its first
pub record Number (m : ℕ) (s : List ℕ) (at n : ℕ) : Type 0 where
  pub most : n ≤ m
  pub more : (k : ℕ) → k < n → 128 ≤ byte s at k
  pub low : byte s at n < 128
  pub tenth : n ≡ m → byte s at n ≤ 1
  pub short : byte s at n ≡ 0 → n ≡ 0
  pub inside : at + n < length s

module _ {s : List ℕ} {at n : ℕ} (w : Number 9 s at n) where
  pub number_last : n ≡ last_of s at
  unfolding last_of
  number_last =
      least_is 9 (ends s at) n w.most (λ l. lt-ltb (byte s at n) 128 w.low) (λ k l. le-ltb (byte s at k) 128 (w.more k l))

  pub number_is : num_at s at ≡ Value (value_of s at (suc n)) (at + n + 1)
  unfolding num_at ends_with
  number_is =
      rw (
        ← number_last,
        lt-leb (length s) (at + n) w.inside,
        or_fails (is_long n (byte s at n)) (is_over n (byte s at n)) (not_long n (byte s at n) w.short) (not_over n (byte s at n) w.tenth),
      )

  -- it fits 64 bits
  pub number_fits : value_of s at (suc n) < 2 ^ 64
  unfolding value_of
  number_fits =
      by_test (eqb n 9)
      (λ t.
      let e = eqb-true n 9 t in
      let b = w.tenth e in
      omega (arith, value_low s at n, mul-le-mul_right {m = byte s at n % 128} {n = 1} (128 ^ n) (omega arith), ap (λ (k : ℕ). 128 ^ k) e))
      (λ t.
      let b = w.most in
      omega (arith, value_low s at (suc n), scale_most n (omega (arith, eqb-false n 9 t))))

-- ---- what num_at says

-- a number that is read
pub record Found (s : List ℕ) (at x e : ℕ) : Type 0 where
  pub n : ℕ
  pub number : Number 9 s at n
  pub value : x ≡ value_of s at (suc n)
  pub place : e ≡ at + n + 1

module _ (s : List ℕ) (at : ℕ) where
  -- the last byte is low: the first nine are looked through for such a one, and a tenth is 0 or 1
  last_low : (is_over (last_of s at) (byte s at (last_of s at)) ≡ false) → byte s at (last_of s at) < 128
  unfolding last_of
  last_low o =
      let n : ℕ = last_of s at in
      by_test (ltb n 9) (λ t. ltb-true (byte s at n) 128 (least_at 9 (ends s at) (ltb-true n 9 t)))
      (λ t. omega (arith, over_false n (byte s at n) o (omega (arith, ltb-false n 9 t, least_le 9 (ends s at)))))

  -- the number, where no test refuses it
  pub number_here : at + last_of s at < length s → is_long (last_of s at) (byte s at (last_of s at)) ≡ false → is_over (last_of s at) (byte s at (last_of s at)) ≡ false
      → Number 9 s at (last_of s at)
  unfolding last_of
  number_here h l o =
      let n : ℕ = last_of s at in
      record {
        most = least_le 9 (ends s at);
        more = λ k b. ltb-false (byte s at k) 128 (least_below 9 (ends s at) k b);
        low = last_low o;
        tenth = over_false n (byte s at n) o;
        short = long_false n (byte s at n) l;
        inside = h;
      }

  pub num_found : {x e : ℕ} → num_at s at ≡ Value x e → Found s at x e
  unfolding num_at ends_with
  num_found {x} {e} q = go (leb (length s) (at + n)) refl (is_long n b or is_over n b) refl q
    where
      n : ℕ
      n = last_of s at

      b : ℕ
      b = byte s at n

      go : (t : Bool) → leb (length s) (at + n) ≡ t → (u : Bool) → (is_long n b or is_over n b) ≡ u
          → pick t (Refused 20 (length s)) (pick u (Refused 21 at) (Value (value_of s at (suc n)) (at + n + 1))) ≡ Value x e → Found s at x e
      go true p u r q = absurd (let z : ◌≡◌ {A = ℕ} 0 1 = cc in omega arith)
      go false p true r q = absurd (let z : ◌≡◌ {A = ℕ} 0 1 = cc in omega arith)
      go false p false r q =
          record {
            n = n;
            number = number_here (leb-false (length s) (at + n) p) (or_fails_l (is_long n b) (is_over n b) r) (or_fails_r (is_long n b) (is_over n b) r);
            value = cc;
            place = cc;
          }

  -- a refusal: 20 at the input's length, or 21 at the number's first byte
  pub num_refused : {c p : ℕ} → num_at s at ≡ Refused c p → ((c ≡ 20) × (p ≡ length s)) ⊎ ((c ≡ 21) × (p ≡ at))
  unfolding num_at ends_with
  num_refused {c} {p} q =
      go (leb (length s) (at + n)) (is_long n (byte s at n) or is_over n (byte s at n)) (value_of s at (suc n)) (at + n + 1) q
    where
      n : ℕ
      n = last_of s at

      go : (t u : Bool) (x e : ℕ) → pick t (Refused 20 (length s)) (pick u (Refused 21 at) (Value x e)) ≡ Refused c p
          → ((c ≡ 20) × (p ≡ length s)) ⊎ ((c ≡ 21) × (p ≡ at))
      go true u x e q = inl ((cc), (cc))
      go false true x e q = inr ((cc), (cc))
      go false false x e q = absurd (let z : ◌≡◌ {A = ℕ} 0 1 = cc in omega arith)

  -- a number that is read fits 64 bits, ends past where it starts, and within the input
  module _ {x e : ℕ} (q : num_at s at ≡ Value x e) where
    pub num_small : x < 2 ^ 64
    num_small = let f = num_found q in rw f.value (number_fits f.number)

    pub num_next : (at < e) × (e ≤ length s)
    num_next = let f = num_found q in (omega (arith, f.place), omega (arith, f.place, f.number.inside))

  -- and a refusal's place is within the input
  pub refused_next : {c p : ℕ} → at ≤ length s → num_at s at ≡ Refused c p → p ≤ length s
  refused_next h q = ⊎_elim (λ r. omega (arith, r.1)) (λ r. omega (arith, r.1)) (num_refused q)
