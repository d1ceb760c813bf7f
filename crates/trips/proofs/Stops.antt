-- Where a reading was stopped: at a number, at a step, or at one of the steps of a run.
-- Assumes nothing.
use Prim.Native.Nat.{ℕ, zero, suc, ◌+◌, ◌<◌}
use mathlib.Core.Path.{◌≡◌, refl}
use native.Mathlib.Omega.{arith}
use Rattle.number.specs.Run.{Step, go, stop, on_num, on_step, run}
use Rattle.number.specs.Number.{Num}
use Rattle.number.specs.Number.{Value, Refused}
use Rattle.number.proofs.Runs.{on_step_lem}

-- a reading that has gone on was not stopped
pub not_stopped : {A C : Type 0} {e c p : ℕ} {a : A} → go e a ≡ stop c p → C
not_stopped q = absurd (let z : ◌≡◌ {A = ℕ} 0 1 = cc in omega arith)

-- what was stopped at a number, or at what follows it
pub num_stopped : {A C : Type 0} (m : Num) (f : ℕ → ℕ → Step A) {c p : ℕ} → on_num m f ≡ stop c p
    → (m ≡ Refused c p → C) → ((x next : ℕ) → m ≡ Value x next → f x next ≡ stop c p → C) → C
num_stopped (Value x next) f q here later = later x next refl q
num_stopped (Refused c p) f q here later = here (cc)

-- what was stopped at a step, or at what follows it
pub step_stopped : {A B C : Type 0} (m : Step A) (f : ℕ → A → Step B) {c p : ℕ} → on_step m f ≡ stop c p
    → (m ≡ stop c p → C) → ((next : ℕ) (a : A) → m ≡ go next a → f next a ≡ stop c p → C) → C
step_stopped (go next a) f q here later = later next a refl q
step_stopped (stop c p) f q here later = here (cc)

-- of the steps i, i + 1, .., n of them: j go on, and the next one is stopped
pub record RunStops {A : Type 0} (f : ℕ → ℕ → A → Step A) (n i at : ℕ) (a : A) (c p : ℕ) : Type 0 where
  pub j : ℕ
  pub place : ℕ
  pub b : A
  pub below : j < n
  pub before : run f j i at a ≡ go place b
  pub stops : f (i + j) place b ≡ stop c p

module _ {A : Type 0} (f : ℕ → ℕ → A → Step A) {c p : ℕ} where
  -- a run that was stopped was stopped at one of its steps
  pub run_stopped : (n i at : ℕ) (a : A) → run f n i at a ≡ stop c p → RunStops f n i at a c p
  unfolding run
  run_stopped zero i at a q = not_stopped q
  run_stopped (suc n) i at a q =
      step_stopped _ _ q now (λ next b r t. later next b r (run_stopped n (i + 1) next b t))
    where
      now : f i at a ≡ stop c p → RunStops f (suc n) i at a c p
      now r =
          let e : i + 0 ≡ i = omega arith in
          record { j = 0; place = at; b = a; below = omega arith; before = refl; stops = rw e r }

      later : (next : ℕ) (b : A) → f i at a ≡ go next b → RunStops f n (i + 1) next b c p
          → RunStops f (suc n) i at a c p
      later next b r t =
          let e : i + suc t.j ≡ i + 1 + t.j = omega arith in
          record {
            j = suc t.j;
            place = t.place;
            b = t.b;
            below = omega (arith, t.below);
            before = rw r t.before;
            stops = rw e t.stops;
          }

  -- and a run is stopped where one of its steps is
  pub run_stops : (n i at : ℕ) (a : A) (j place : ℕ) (b : A) → j < n → run f j i at a ≡ go place b
      → f (i + j) place b ≡ stop c p → run f n i at a ≡ stop c p
  unfolding run
  run_stops zero i at a j place b l q r = absurd (omega arith)
  run_stops (suc n) i at a zero place b l q r =
      let y : place ≡ at = cc in
      let z : b ≡ a = cc in
      let e : i + 0 ≡ i = omega arith in
      let w = rw (y, z, e) at r in
      rw w
  run_stops (suc n) i at a (suc j) place b l q r =
      let e : i + suc j ≡ i + 1 + j = omega arith in
      let t = on_step_lem (f i at a) _ q in
      let w = t.2 in
      rw w (run_stops n (i + 1) t.0 t.1 j place b (omega arith) t.3 (rw e at r))
