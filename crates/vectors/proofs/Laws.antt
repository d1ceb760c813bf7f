-- What a failed test says, what a refused file says, where a policy's file stands once it is written, and what follows a part of a record.
-- Assumes nothing.
use Rattle.std.specs.Prelude.{Result, Ok, Err}
use Rattle.std.proofs.Common.{◌≡◌, ℕ, ◌+◌, ◌-◌, ◌≤◌, ◌<◌, true, false, List, ◌∷◌, length, take, drop, sym, refl, ap, ◌∙◌, arith}
use Rattle.std.proofs.lemmas.List.{drop-drop}
use Rattle.sets.proofs.Tests.{clash}
use Rattle.policy.specs.declared.Policy.{Policy}
use Rattle.policy.specs.Good.{Good}
use Rattle.reading.specs.declared.FileError.{FileError}
use Rattle.reading.specs.File.{Accepted, as_how, read_policy}
use Rattle.layout.specs.Layout.{policy_bytes}
use Rattle.layout.proofs.Most.{always_enough}
use Rattle.policy.specs.declared.Refusal.{Refusal}
use Rattle.writing.specs.Writing.{Output, written_length}
use Rattle.trips.proofs.Trips.{written_part}
use Rattle.entries.proofs.Refused.{not_bad}
use Rattle.vectors.specs.Numbers.{IsLater}

-- a test that failed says nothing
pub never : {A : Type 0} → false ≡ true → A
never e = clash e refl

-- nor does acceptance, of a file that was refused
pub not_accepted : (s : List ℕ) {A : Type 0} (e : FileError) → as_how (Err e) ≡ (read_policy s).how → (read_policy s).how ≡ Accepted → A
not_accepted s e told q = not_bad s q (sym told)

-- a good policy's file stands at the start of a buffer that has room for any
pub written_start : (p : Policy) → Good p → (o : List ℕ) {r : Result ℕ Refusal} {a : List ℕ} {n : ℕ} → Output p o r a → r ≡ Ok n
    → 10375 ≤ length o → take n a ≡ policy_bytes p
unfolding written_length
written_start p g o {r} {a} {n} w e h =
    let z : n - 0 ≡ n = omega arith in
    rw z at (rw e at (written_part p o w (omega (arith, always_enough p g))))

module _ (s : List ℕ) where
  -- what follows a record's first part
  pub past_first : {t : List ℕ} (n : ℕ) → 0 < n → t ≡ drop n s → length t + n ≡ length s → IsLater t s
  past_first {t} n some e l =
      let k : length s - length t ≡ n = omega (arith, l) in
      (rw k e, omega (arith, l, some))

  -- and what follows a part further on
  pub past_part : {t u : List ℕ} (n : ℕ) → IsLater t s → u ≡ drop n t → length u + n ≡ length t → IsLater u s
  past_part {t} {u} n w e l =
      let k : length s - length u ≡ length s - length t + n = omega (arith, l, w.1) in
      (rw k (e ∙ ap (drop n) w.0 ∙ drop-drop n (length s - length t) s), omega (arith, l, w.1))

  -- a part of one byte
  pub past_byte : {t u : List ℕ} {x : ℕ} → IsLater t s → t ≡ x ∷ u → length u + 1 ≡ length t → IsLater u s
  past_byte w e l = past_part 1 w (rw e) l
