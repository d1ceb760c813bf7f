-- Bytes that are exactly a part of the input: of a number that was read, of two things one after the other, of a count and that many things.
-- Assumes nothing.
use Prim.Native.Nat.{ℕ, ◌<◌, ◌≤◌}
use mathlib.Core.Path.{◌≡◌, sym, ◌∙◌, ap₂}
use mathlib.Core.Bool.{Bool}
use mathlib.Core.List.{List, [], ◌++◌}
use native.Mathlib.Omega.{arith}
use lib.Dec.{leb}
use lib.ListN.{length, get_or}
use Rattle.sets.specs.Sets.{has, subset}
use Rattle.number.specs.Number.{num_at, num_bytes, tested, part}
use Rattle.number.specs.Run.{Step, go, on_num, run, each}
use Rattle.number.specs.Number.{Value}
use Rattle.number.proofs.Parts.{part_none, part_join}
use Rattle.number.proofs.Numbers.{num_next}
use Rattle.number.proofs.Tested.{tested_was}
use Rattle.number.proofs.Runs.{on_num_lem}
use Rattle.number.proofs.RoundTrip.{written_read}
use Rattle.number.proofs.RunTrip.{Stepped, each_run}
use Rattle.sections.specs.Numbers.{set_at, count_at, member_at}
use Rattle.sections.proofs.Laws.{count_most}

pub record Exact (s : List ℕ) (at e : ℕ) (bs : List ℕ) : Type 0 where
  pub onward : at ≤ e
  pub within : e ≤ length s
  pub bytes : bs ≡ part s at e

pub exact_none : (s : List ℕ) (at : ℕ) → at ≤ length s → Exact s at at []
exact_none s at h = record { onward = omega arith; within = h; bytes = sym (part_none s at) }

pub exact_next : {s : List ℕ} {at mid e : ℕ} {a b : List ℕ} → Exact s at mid a → Exact s mid e b → Exact s at e (a ++ b)
exact_next {s} {at} {mid} {e} x y =
    record {
      onward = omega (arith, x.onward, y.onward);
      within = y.within;
      bytes = ap₂ ◌++◌ x.bytes y.bytes ∙ part_join s at mid e x.onward y.onward;
    }

module _ (s : List ℕ) (small : (k : ℕ) → get_or s k 0 < 256) where
  -- ---- a number
  pub num_exact : {at x e : ℕ} → num_at s at ≡ Value x e → Exact s at e (num_bytes x)
  num_exact {at} q =
      let n = num_next s at q in
      record { onward = omega (arith, n); within = n.1; bytes = written_read s small at q }

  pub tested_exact : (t : ℕ → Bool) {at x e : ℕ} → tested t at (num_at s at) ≡ Value x e → Exact s at e (num_bytes x)
  tested_exact t {at} q = num_exact (tested_was t at (num_at s at) q).0

  pub set_exact : (of : ℕ) {at x e : ℕ} → set_at s of at ≡ Value x e → Exact s at e (num_bytes x)
  unfolding set_at
  set_exact of q = tested_exact (λ x. subset 64 x of) q

  pub count_exact : (most : ℕ) {at x e : ℕ} → count_at s most at ≡ Value x e → Exact s at e (num_bytes x)
  unfolding count_at
  count_exact most q = tested_exact (λ x. leb x most) q

  pub member_exact : (of : ℕ) {at x e : ℕ} → member_at s of at ≡ Value x e → Exact s at e (num_bytes x)
  unfolding member_at
  member_exact of q = tested_exact (has of) q

  -- ---- a count, and that many things: g b i are the bytes of thing i in the state b
  module _ {A : Type 0} (f : ℕ → ℕ → A → Step A) (Ok : ℕ → A → Type 0) (g : A → ℕ → List ℕ)
      (count : A → ℕ) (most : ℕ) (start : ℕ → A)
      (begins : (n : ℕ) → Ok n (start n)) (counts : (n : ℕ) (a : A) → Ok n a → count a ≡ n)
      (steps : (n : ℕ) → n ≤ most → (i at : ℕ) (a : A) (next : ℕ) (b : A) → i < n → at ≤ length s → Ok n a → f i at a ≡ go next b
      → Stepped (Ok n) g s i at a next b) where
    pub counted_exact : (at : ℕ) {e : ℕ} {b : A} → on_num (count_at s most at) (λ n next. run f n 0 next (start n)) ≡ go e b
        → Exact s at e (num_bytes (count b) ++ each (g b) (count b) 0)
    counted_exact at {e} {b} q =
        let c = on_num_lem (count_at s most at) (λ n next. run f n 0 next (start n)) q in
        let k = count_exact most c.2 in
        let r = each_run f (Ok c.0) g s c.0 (steps c.0 (count_most s most at c.2)) c.0 0 c.1 (start c.0) e b (omega arith) k.within (begins c.0) c.3 in
        let d = counts c.0 b r.ok in
        rw d (exact_next k (record { onward = r.onward; within = r.within; bytes = r.bytes }))
