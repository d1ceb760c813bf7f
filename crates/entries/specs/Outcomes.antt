-- Which outcomes each entry may give, and what stands beside a refusal.
use Rattle.std.specs.Prelude.{ℕ, ◌≤◌, ◌≡◌, Bool, false, List, [], ◌∷◌, eqb, leb}
use Rattle.sets.specs.Tests.{◌and◌, ◌or◌}
use Rattle.requests.specs.Numbers.{among, may_give}
use Rattle.reading.specs.File.{Refused}
use Rattle.reading.specs.File.{read_policy}
use Rattle.answers.specs.Answers.{Fields, apart, refusal}

-- a bad file's: 20 to 27
unfoldable pub of_bad_file : ℕ → Bool
of_bad_file n = leb 20 n and leb n 27

-- a refusal's other numbers: "with length 0, role number 0 and, for a bad file, its place (else 0), and nothing is written"
pub record Refusal (f : Fields) : Type 0 where
  pub number : f.number ≡ 0
  pub length : f.length ≡ 0
  pub place : of_bad_file f.outcome ≡ false → f.place ≡ 0

-- "a bad file's refusal comes first": the answer is the file's own refusal, with its place, exactly if the file is refused so
pub record BadFile (s : List ℕ) (r : ℕ) : Type 0 where
  pub then : (c p : ℕ) → (read_policy s).how ≡ Refused c p → apart r ≡ refusal c p
  pub only : 20 ≤ (apart r).outcome → (read_policy s).how ≡ Refused (apart r).outcome (apart r).place

unfoldable pub check_gives : ℕ → Bool
check_gives n = of_bad_file n or eqb n 0

-- what the kind may give, and, for a kind that may be accepted, 10 from the writer
unfoldable pub request_gives : ℕ → ℕ → Bool
request_gives kind n = of_bad_file n or (may_give kind n or (may_give kind 0 and eqb n 10))

unfoldable pub listing_gives : ℕ → Bool
listing_gives n = of_bad_file n or among n (0 ∷ 2 ∷ 10 ∷ [])

unfoldable pub question_gives : ℕ → Bool
question_gives n = of_bad_file n or among n (0 ∷ 2 ∷ [])

unfoldable pub table_gives : ℕ → Bool
table_gives n = of_bad_file n or among n (0 ∷ 1 ∷ [])
