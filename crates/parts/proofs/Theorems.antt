-- What the finder of a part promises: an accepted file's table stands from its count to its last row; else 1, or the file's own refusal.
-- Assumes nothing.
use Prim.Native.Nat.{ℕ, ◌+◌, ◌-◌}
use mathlib.Core.Path.{◌≡◌, refl}
use mathlib.Core.Logic.{◌⊎◌, inl, inr}
use mathlib.Core.Bool.{Bool, true, false}
use mathlib.Core.List.{List, []}
use native.Mathlib.Omega.{arith}
use Rattle.sets.specs.Tests.{pick}
use Rattle.number.specs.Number.{part}
use Rattle.number.specs.Run.{Step, go, stop}
use Rattle.reading.specs.File as how
use Rattle.reading.specs.declared.File.{File}
use Rattle.reading.specs.File.{file_at, loaded, read_policy}
use Rattle.parts.specs.Parts.{Refused}
use Rattle.parts.specs.Parts.{is_table, start_of, end_of, part_of, part_at, part_bytes}
use Rattle.parts.proofs.Laws.{file_inside}

module _ (s : List ℕ) (k : ℕ) where
  -- "that part of the caller's own file, from its count to its last row"
  pub part_is : {e : ℕ} {f : File} → is_table k ≡ true → file_at s ≡ go e f → part_bytes s k ≡ part s (start_of f.places k) (end_of f.places k)
  unfolding part_bytes part_at
  part_is {e} {f} t q =
      let i = file_inside k q in
      let z : start_of f.places k + (end_of f.places k - start_of f.places k) ≡ end_of f.places k = omega (arith, i.some) in
      rw (t, q, z)

  -- "a table number not 1 to 5 gives 1, then a bad file its own refusal"
  pub part_refused : {c p : ℕ} → part_at s k ≡ Refused c p
      → ((is_table k ≡ false) × (c ≡ 1) × (p ≡ 0)) ⊎ ((is_table k ≡ true) × ((read_policy s).how ≡ how.Refused c p))
  unfolding part_at read_policy
  part_refused {c} {p} q = by (is_table k) refl (file_at s) q
    where
      by : (t : Bool) → is_table k ≡ t → (w : Step File) → pick t (part_of k w) (Refused 1 0) ≡ Refused c p
          → ((is_table k ≡ false) × (c ≡ 1) × (p ≡ 0)) ⊎ ((is_table k ≡ true) × ((loaded w).how ≡ how.Refused c p))
      by true t (go e f) q = absurd (let z : ◌≡◌ {A = ℕ} 0 1 = cc in omega arith)
      by true t (stop d r) q = inr (t, (cc))
      by false t w q = inl (t, (cc), (cc))

  -- "both with an empty part"
  pub refused_none : {c p : ℕ} → part_at s k ≡ Refused c p → part_bytes s k ≡ []
  unfolding part_bytes
  refused_none q = rw q
