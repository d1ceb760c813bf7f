-- Readings one after the other, and bytes one after the other: what each loop of the file's reader and of its writer does.
use Rattle.std.specs.Prelude.{ℕ, zero, suc, ◌+◌, List, [], ◌++◌, Result, Ok, Err}
use Rattle.number.specs.declared.NumberError.{NumberError}
use Rattle.number.specs.Number.{Num, Value, Refused, number_of, place_of}

-- a reading goes on to a place, with what it has read, or stops, with the refusal's number and place
pub data Step (A : Type 0) : Type 0 where
  go : ℕ → A → Step A
  stop : ℕ → ℕ → Step A

-- what a reader answers, in document 01's numbers
abbrev pub as_step : {A : Type 0} → Result (A × ℕ) NumberError → Step A
as_step (Ok r) = go r.1 r.0
as_step (Err e) = stop (number_of e) (place_of e)

-- ---- "The first in reading order wins": what follows is read only where nothing before it was refused

-- what follows a number
abbrev pub on_num : {A : Type 0} → Num → (ℕ → ℕ → Step A) → Step A
on_num (Value x next) f = f x next
on_num (Refused c p) f = stop c p

-- what follows a step
abbrev pub on_step : {A B : Type 0} → Step A → (ℕ → A → Step B) → Step B
on_step (go at a) f = f at a
on_step (stop c p) f = stop c p

-- the steps i, i + 1, .., n of them
unfoldable pub run : {A : Type 0} → (ℕ → ℕ → A → Step A) → ℕ → ℕ → ℕ → A → Step A
run f zero i at a = go at a
run f (suc n) i at a = on_step (f i at a) (λ next b. run f n (i + 1) next b)

-- ---- the bytes of the things i, i + 1, .., n of them, each directly after the one before
unfoldable pub each : (ℕ → List ℕ) → ℕ → ℕ → List ℕ
each f zero i = []
each f (suc n) i = f i ++ each f n (i + 1)
