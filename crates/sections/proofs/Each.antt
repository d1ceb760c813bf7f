-- A count and so many things: where the reading of them stops, and what is made of them once they are read.
-- Assumes nothing.
use Prim.Native.Nat.{ℕ, zero, suc, ◌+◌}
use mathlib.Core.Path.{◌≡◌, refl}
use Rattle.std.specs.Prelude.{Result}
use mathlib.Core.List.{List}
use lib.ListN.{length, set}
use Rattle.number.specs.declared.NumberError.{NumberError}
use Rattle.number.specs.Number.{Num, Value, Refused}
use Rattle.number.specs.Run.{Step, go, stop, as_step, on_num, on_step, run}
use Rattle.sections.specs.Numbers.{count_at}
use Rattle.sections.specs.Each.{things_read, put_step, each_at}

module _ {A : Type 0} (item : ℕ → Step A) where
  module _ (i at : ℕ) (l : List A) where
    pub put_not : {c p : ℕ} → item at ≡ stop c p → put_step item i at l ≡ stop c p
    unfolding put_step
    put_not e = rw e

    pub put_in : {next : ℕ} {x : A} → item at ≡ go next x → put_step item i at l ≡ go next (set l i x)
    unfolding put_step
    put_in e = rw e

  module _ (s : List ℕ) (at : ℕ) (l : List A) where
    pub each_none : {c p : ℕ} → count_at s (length l) at ≡ Refused c p → each_at s item at l ≡ stop c p
    unfolding each_at
    each_none e = rw e

    module _ {n first : ℕ} (e : count_at s (length l) at ≡ Value n first) where
      pub each_not : {c p : ℕ} → run (put_step item) n 0 first l ≡ stop c p → each_at s item at l ≡ stop c p
      unfolding each_at
      each_not k = rw (e, k)

      pub each_over : {next : ℕ} {b : List A} → run (put_step item) n 0 first l ≡ go next b → each_at s item at l ≡ go next (n, b)
      unfolding each_at
      each_over k = rw (e, k)

-- a run of the same readings that keeps more beside what is read
module _ {A B : Type 0} (f : ℕ → ℕ → A → Step A) (g : ℕ → ℕ → B → Step B) (h : A → B)
    (same : (i at : ℕ) (a : A) → g i at (h a) ≡ on_step (f i at a) (λ next b. go next (h b))) where
  run_kept : (n i at : ℕ) (a : A) → run g n i at (h a) ≡ on_step (run f n i at a) (λ next b. go next (h b))
  unfolding run
  run_kept zero i at a = refl
  run_kept (suc n) i at a = rw (same i at a) (by (λ next b. run_kept n (i + 1) next b) (f i at a))
    where
      by : ((next : ℕ) (b : A) → run g n (i + 1) next (h b) ≡ on_step (run f n (i + 1) next b) (λ next b. go next (h b))) → (m : Step A)
          → on_step (on_step m (λ next b. go next (h b))) (λ next b. run g n (i + 1) next b)
          ≡ on_step (on_step m (λ next b. run f n (i + 1) next b)) (λ next b. go next (h b))
      by k (go next b) = k next b
      by k (stop c p) = refl

-- what is made of what was read, and of that again
pub made_twice : {A B C : Type 0} (m : Step A) (f : A → B) (g : B → C)
    → on_step m (λ next b. go next (g (f b))) ≡ on_step (on_step m (λ next b. go next (f b))) (λ next b. go next (g b))
made_twice (go next b) f g = refl
made_twice (stop c p) f g = refl

-- a section of so many things, which keeps them and their count in an h
module _ {A B : Type 0} (item : ℕ → Step A) (step : ℕ → ℕ → B → Step B) (h : ℕ → List A → B)
    (same : (n i at : ℕ) (l : List A) → step i at (h n l) ≡ on_step (put_step item i at l) (λ next k. go next (h n k))) (s : List ℕ) (at : ℕ)
    (l : List A) where
  each_kept : on_num (count_at s (length l) at) (λ n next. run step n 0 next (h n l))
      ≡ on_step {A = ℕ × List A} (each_at s item at l) (λ next k. go next (h k.0 k.1))
  unfolding each_at
  each_kept = by (count_at s (length l) at)
    where
      by : (m : Num) → on_num m (λ n next. run step n 0 next (h n l))
          ≡ on_step {A = ℕ × List A} (on_num m (λ n first. on_step (run (put_step item) n 0 first l) (λ next k. go next (n, k))))
          (λ next k. go next (h k.0 k.1))
      by (Value n next) =
          rw (run_kept (put_step item) step (h n) (same n) n 0 next l)
          (made_twice (run (put_step item) n 0 next l) (λ b. (n, b)) (λ k. h k.0 k.1))
      by (Refused c p) = refl

  pub each-read : (r : Result (ℕ × ℕ) NumberError) (k : List A) → things_read r k ≡ each_at s item at l
      → on_step (as_step r) (λ next n. go next (h n k)) ≡ on_num (count_at s (length l) at) (λ n next. run step n 0 next (h n l))
  each-read r k e = rw (each_kept, ← e) (made_twice (as_step r) (λ n. (n, k)) (λ k. h k.0 k.1))
