-- Runs of readings: what a loop keeps that does one, where a run ends, and what its refusals are.
-- Assumes nothing.
use Prim.Native.Nat.{ℕ, zero, suc, ◌+◌, ◌-◌, ◌<◌, ◌≤◌}
use mathlib.Core.Path.{◌≡◌, refl, sym, ◌∙◌}
use Rattle.std.specs.Prelude.{Result, Ok, Err, IsErrAnd}
use mathlib.Core.Logic.{◌⊎◌, inl, inr, ⊎_elim}
use native.Mathlib.Omega.{arith}
use Rattle.number.specs.declared.NumberError.{NumberError}
use Rattle.number.specs.Number.{Num, Value, Refused, number_of, place_of}
use Rattle.number.specs.Run.{Step, go, stop, as_step, on_num, on_step, run}

-- a refusal that is handed on
pub err_step : {A : Type 0} (r : Result (A × ℕ) NumberError) (e : NumberError) → IsErrAnd r (λ f. f ≡ e) → as_step r ≡ stop (number_of e) (place_of e)
err_step (Ok x) e h = absurd h
err_step (Err f) e h = rw h

-- ---- a loop that does a run: the run from here gives what the run from the start gives

-- w is the whole run's answer; i of its N steps are done
pub record Going {A : Type 0} (f : ℕ → ℕ → A → Step A) (N : ℕ) (w : Step A) (i at : ℕ) (a : A) : Type 0 where
  pub most : i ≤ N
  pub same : w ≡ run f (N - i) i at a

module _ {A : Type 0} {f : ℕ → ℕ → A → Step A} {N : ℕ} where
  pub begin : (at : ℕ) (a : A) → Going f N (run f N 0 at a) 0 at a
  begin at a = record { most = omega arith; same = let e : N - 0 ≡ N = omega arith in rw e }

  module _ {w : Step A} {i at : ℕ} {a : A} (g : Going f N w i at a) where
    turn : i < N → w ≡ run f (suc (N - (i + 1))) i at a
    turn h = let e : N - i ≡ suc (N - (i + 1)) = omega arith in rw e at g.same

    pub goes : {next : ℕ} {b : A} → i < N → f i at a ≡ go next b → Going f N w (i + 1) next b
    unfolding run
    goes h e = record { most = omega arith; same = turn h ∙ rw e }

    pub stops : {c p : ℕ} → i < N → f i at a ≡ stop c p → w ≡ stop c p
    unfolding run
    stops h e = turn h ∙ rw e

    pub over : N ≤ i → w ≡ go at a
    unfolding run
    over h = let e : N - i ≡ 0 = omega arith in rw e at g.same

-- ---- what a reading that was gone past has been

no_go : {A B : Type 0} {c p e : ℕ} {a : A} → stop c p ≡ go e a → B
no_go q = absurd (let z : ◌≡◌ {A = ℕ} 0 1 = cc in omega arith)

pub on_num_lem : {A : Type 0} (m : Num) (f : ℕ → ℕ → Step A) {e : ℕ} {a : A} → on_num m f ≡ go e a
    → (x : ℕ) × (next : ℕ) × (m ≡ Value x next) × (f x next ≡ go e a)
on_num_lem (Value x next) f q = (x, next, refl, q)
on_num_lem (Refused c p) f q = no_go q

pub on_step_lem : {A B : Type 0} (m : Step A) (f : ℕ → A → Step B) {e : ℕ} {b : B} → on_step m f ≡ go e b
    → (next : ℕ) × (a : A) × (m ≡ go next a) × (f next a ≡ go e b)
on_step_lem (go next a) f q = (next, a, refl, q)
on_step_lem (stop c p) f q = no_go q

-- and what one has been that was stopped: stopped itself, or gone past and stopped later
pub on_step_stop : {A B : Type 0} (m : Step A) (f : ℕ → A → Step B) {c p : ℕ} → on_step m f ≡ stop c p
    → (m ≡ stop c p) ⊎ ((next : ℕ) × (a : A) × (m ≡ go next a) × (f next a ≡ stop c p))
on_step_stop (go next a) f q = inr (next, a, refl, q)
on_step_stop (stop c p) f q = inl (cc)

-- ---- where each step ends within the input, and not before it starts, so does the run
module _ {A : Type 0} (f : ℕ → ℕ → A → Step A) (len : ℕ)
    (bound : (i at : ℕ) (a : A) (next : ℕ) (b : A) → at ≤ len → f i at a ≡ go next b → (at ≤ next) × (next ≤ len)) where
  pub run_next : (n i at : ℕ) (a : A) (e : ℕ) (b : A) → at ≤ len → run f n i at a ≡ go e b → (at ≤ e) × (e ≤ len)
  unfolding run
  run_next zero i at a e b h q = let z : e ≡ at = cc in (omega arith, omega arith)
  run_next (suc n) i at a e b h q =
      let s = on_step_lem (f i at a) (λ next c. run f n (i + 1) next c) q in
      let k = bound i at a s.0 s.1 h s.2 in
      let r = run_next n (i + 1) s.0 s.1 e b k.1 s.3 in
      (omega (arith, k, r), r.1)

  -- and what holds of each step's refusal holds of the run's
  module _ (P : ℕ → ℕ → Type 0) (refusal : (i at : ℕ) (a : A) (c p : ℕ) → at ≤ len → f i at a ≡ stop c p → P c p) where
    pub run_stop : (n i at : ℕ) (a : A) (c p : ℕ) → at ≤ len → run f n i at a ≡ stop c p → P c p
    unfolding run
    run_stop zero i at a c p h q = no_go (sym q)
    run_stop (suc n) i at a c p h q =
        ⊎_elim (λ r. refusal i at a c p h r)
        (λ r. run_stop n (i + 1) r.0 r.1 c p (bound i at a r.0 r.1 h r.2).1 r.3)
        (on_step_stop (f i at a) (λ next b. run f n (i + 1) next b) q)
