-- Both round trips by what the writer promises of its answer and of the buffer, and how long a file is that is accepted.
-- Assumes nothing.
use Prim.Native.Nat.{ℕ, ◌+◌, ◌<◌, ◌≤◌}
use mathlib.Core.Path.{◌≡◌, ◌∙◌, ap}
use mathlib.Core.List.{List}
use native.Mathlib.Omega.{arith}
use lib.ListN.{length, get_or}
use Rattle.policy.specs.declared.Policy.{Policy}
use Rattle.policy.specs.Good.{Good}
use Rattle.number.specs.Number.{part}
use Rattle.number.proofs.Parts.{stands_part}
use Rattle.number.proofs.Stores.{sets_stands}
use Rattle.reading.specs.File.{Accepted}
use Rattle.reading.specs.File.{read_policy}
use Rattle.reading.proofs.Theorems.{accepted_good}
use Rattle.layout.specs.Layout.{policy_bytes}
use Rattle.layout.proofs.Most.{always_enough}
use Rattle.std.specs.Prelude.{Result}
use Rattle.policy.specs.declared.Refusal.{Refusal}
use Rattle.writing.specs.Writing.{Output, written_length}
use Rattle.writing.proofs.Outputs.{accepted, long_bytes}
use Rattle.trips.proofs.ReadWritten.{read_written_policy}
use Rattle.trips.proofs.WrittenRead.{written_read_policy}

-- the buffer up to the length that is returned is the file
pub written_part : (p : Policy) (o : List ℕ) {r : Result ℕ Refusal} {a : List ℕ} → Output p o r a → length (policy_bytes p) ≤ length o
    → part a 0 (written_length r) ≡ policy_bytes p
written_part p o x h =
    let l = (accepted p o x h).1 in
    let b = x.bytes ∙ long_bytes p o h in
    let z : 0 + length (policy_bytes p) ≡ length (policy_bytes p) = omega arith in
    rw (l, b) (rw z at (stands_part (sets_stands o 0 (policy_bytes p) (omega arith))))

-- Reading what was written gives the same policy, for every good policy.
pub read_after_write : (p : Policy) → Good p → (o : List ℕ) {r : Result ℕ Refusal} {a : List ℕ} → Output p o r a → length (policy_bytes p) ≤ length o
    → read_policy (part a 0 (written_length r)) ≡ record { how = Accepted; policy = p }
read_after_write p g o x h = rw (written_part p o x h) (read_written_policy p g)

module _ (s : List ℕ) (small : (k : ℕ) → get_or s k 0 < 256) (q : (read_policy s).how ≡ Accepted) where
  -- Writing what was read gives the same bytes, for every accepted file.
  pub write_after_read : (o : List ℕ) {r : Result ℕ Refusal} {a : List ℕ} → Output (read_policy s).policy o r a → length s ≤ length o
      → (written_length r ≡ length s) × (part a 0 (length s) ≡ s)
  write_after_read o {r} {a} x h =
      let e = written_read_policy s small q in
      let l : length (policy_bytes (read_policy s).policy) ≤ length o = omega (arith, ap length e) in
      let n : written_length r ≡ length s = (accepted (read_policy s).policy o x l).1 ∙ ap length e in
      (n, rw (← n) (written_part (read_policy s).policy o x l) ∙ e)

  -- "10,375 bytes are always enough for first number 1": no file that is accepted is longer
  pub accepted_most : length s ≤ 10375
  accepted_most = omega (arith, ap length (written_read_policy s small q), always_enough (read_policy s).policy (accepted_good s q))
