-- Both round trips of a run: what each thing's bytes were written for is read again, and what a run has read is what each thing's bytes are.
-- Assumes nothing.
use Prim.Native.Nat.{ℕ, zero, suc, ◌+◌, ◌<◌, ◌≤◌}
use mathlib.Core.Path.{◌≡◌, refl, sym, ◌∙◌, ap₂}
use mathlib.Core.List.{List, ◌++◌}
use native.Mathlib.Omega.{arith}
use lib.ListN.{length, length-append}
use Rattle.number.specs.Number.{part}
use Rattle.number.specs.Run.{Step, go, run, each}
use Rattle.number.proofs.Parts.{Stands, stands_first, stands_second, part_none, part_join}
use Rattle.number.proofs.Runs.{on_step_lem}

-- the state after the steps i, i + 1, .., n of them
unfoldable pub after : {A : Type 0} → (ℕ → A → A) → ℕ → ℕ → A → A
after u zero i a = a
after u (suc n) i a = after u n (i + 1) (u i a)

-- Where each step reads what was written for it, the run reads the whole.
module _ {A : Type 0} (f : ℕ → ℕ → A → Step A) (g : ℕ → List ℕ) (u : ℕ → A → A) (s : List ℕ) (N : ℕ)
    (reads : (i at : ℕ) (a : A) → i < N → Stands s at (g i) → f i at a ≡ go (at + length (g i)) (u i a)) where
  pub run_each : (n i at : ℕ) (a : A) → i + n ≤ N → Stands s at (each g n i) → run f n i at a ≡ go (at + length (each g n i)) (after u n i a)
  unfolding run each after
  run_each zero i at a h w = let e : at + 0 ≡ at = omega arith in rw e
  run_each (suc n) i at a h w =
      let r = each g n (i + 1) in
      let one = reads i at a (omega arith) (stands_first (g i) r w) in
      let e : at + length (g i) + length r ≡ at + length (g i ++ r) = omega (arith, length-append (g i) r) in
      rw one (run_each n (i + 1) (at + length (g i)) (u i a) (omega arith) (stands_second (g i) r w) ∙ rw e)

-- What a step does that reads the bytes of thing i: g b i are the bytes of thing i in the state b.
pub record Stepped {A : Type 0} (Ok : A → Type 0) (g : A → ℕ → List ℕ) (s : List ℕ) (i at : ℕ) (a : A) (next : ℕ) (b : A) : Type 0 where
  pub ok : Ok b
  pub onward : at ≤ next
  pub within : next ≤ length s
  pub bytes : g b i ≡ part s at next
  -- the things before it stay
  pub stays : (j : ℕ) → j < i → g b j ≡ g a j

-- Where each step has read the bytes of its thing, the run has read the bytes of each.
pub record Ran {A : Type 0} (Ok : A → Type 0) (g : A → ℕ → List ℕ) (s : List ℕ) (n i at : ℕ) (a : A) (e : ℕ) (b : A) : Type 0 where
  pub ok : Ok b
  pub onward : at ≤ e
  pub within : e ≤ length s
  pub bytes : each (g b) n i ≡ part s at e
  pub stays : (j : ℕ) → j < i → g b j ≡ g a j

module _ {A : Type 0} (f : ℕ → ℕ → A → Step A) (Ok : A → Type 0) (g : A → ℕ → List ℕ) (s : List ℕ) (N : ℕ)
    (steps : (i at : ℕ) (a : A) (next : ℕ) (b : A) → i < N → at ≤ length s → Ok a → f i at a ≡ go next b → Stepped Ok g s i at a next b) where
  pub each_run : (n i at : ℕ) (a : A) (e : ℕ) (b : A) → i + n ≤ N → at ≤ length s → Ok a → run f n i at a ≡ go e b → Ran Ok g s n i at a e b
  unfolding run each
  each_run zero i at a e b h l o q =
      let z : at ≡ e = cc in
      let y : a ≡ b = cc in
      rw (← z, ← y) (record { ok = o; onward = omega arith; within = l; bytes = sym (part_none s at); stays = λ j m. refl })
  each_run (suc n) i at a e b h l o q =
      let t = on_step_lem (f i at a) (λ next c. run f n (i + 1) next c) q in
      let k = steps i at a t.0 t.1 (omega arith) l o t.2 in
      let r = each_run n (i + 1) t.0 t.1 e b (omega arith) k.within k.ok t.3 in
      record {
        ok = r.ok;
        onward = omega (arith, k.onward, r.onward);
        within = r.within;
        bytes = ap₂ ◌++◌ (r.stays i (omega arith) ∙ k.bytes) r.bytes ∙ part_join s at t.0 e k.onward r.onward;
        stays = λ j m. r.stays j (omega arith) ∙ k.stays j m;
      }
