-- A count, and so many things, each where the one before it ends. Document 01, "The policy file": "each a count and rows".
-- s is the input, a list of bytes; at is the place of the count's first byte; item says what stands at a place.
use Rattle.std.specs.Prelude.{ℕ, ◌≡◌, List, length, set, Result}
use Rattle.number.specs.declared.NumberError.{NumberError}
use Rattle.number.specs.Run.{Step, go, as_step, on_num, on_step, run}
use Rattle.sections.specs.Numbers.{count_at}

-- what a reader may answer at a place is what item says of it
abbrev pub Reads : {A : Type 0} → (ℕ → Result (A × ℕ) NumberError → Type 0) → (ℕ → Step A) → Type 0
Reads {A} may_answer item = (at : ℕ) (r : Result (A × ℕ) NumberError) → may_answer at r → as_step r ≡ item at

-- how many things were read, with the places that they are in
abbrev pub things_read : {A : Type 0} → Result (ℕ × ℕ) NumberError → List A → Step (ℕ × List A)
things_read r l = on_step (as_step r) (λ next n. go next (n, l))

-- thing i is put in place i
unfoldable pub put_step : {A : Type 0} → (ℕ → Step A) → ℕ → ℕ → List A → Step (List A)
put_step item i at l = on_step (item at) (λ next x. go next (set l i x))

-- a count of at most the places of l, and the things in the first of them
unfoldable pub each_at : {A : Type 0} → List ℕ → (ℕ → Step A) → ℕ → List A → Step (ℕ × List A)
each_at s item at l =
    on_num (count_at s (length l) at) (λ n first. on_step (run (put_step item) n 0 first l) (λ next k. go next (n, k)))
