-- What the writer of a policy answers, and what it leaves in the buffer. Document 01, "The policy file".
use Rattle.std.specs.Prelude.{ℕ, ◌≡◌, Bool, List, ltb, length, Result, Ok, Err}
use Rattle.std.proofs.lemmas.List.Edits.{sets}
use Rattle.sets.specs.Tests.{pick}
use Rattle.policy.specs.declared.Policy.{Policy}
use Rattle.policy.specs.declared.Refusal.{Refusal}
use Rattle.policy.specs.declared.Refusal.TheVariants.{BufferTooShort}
use Rattle.policy.specs.Outcome.{outcome_of}
use Rattle.layout.specs.Layout.{policy_bytes}

-- the number of each answer, and the length that it gives: "the first refusal is returned, with length 0", "else the file's length is returned too"
unfoldable pub written_outcome : Result ℕ Refusal → ℕ
written_outcome r = outcome_of r

unfoldable pub written_length : Result ℕ Refusal → ℕ
written_length (Ok n) = n
written_length (Err r) = 0

-- "The writer refuses with 10 exactly if the buffer is shorter than the file"
unfoldable pub too_short : Policy → List ℕ → Bool
too_short p out = ltb (length out) (length (policy_bytes p))

unfoldable pub answer_of : Policy → List ℕ → Result ℕ Refusal
answer_of p out = pick (too_short p out) (Err BufferTooShort) (Ok (length (policy_bytes p)))

-- "and nothing is written"; otherwise the file, "and bytes past the end stay"
unfoldable pub bytes_after : Policy → List ℕ → List ℕ
bytes_after p out = pick (too_short p out) out (sets out 0 (policy_bytes p))

-- what the writer of a policy does: its answer, and every byte of the buffer
pub record Output (p : Policy) (before : List ℕ) (r : Result ℕ Refusal) (after : List ℕ) : Type 0 where
  pub answer : r ≡ answer_of p before
  pub bytes : after ≡ bytes_after p before
