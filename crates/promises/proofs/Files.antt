-- Demand 2, of files: when a file is refused, by what, and from every entry; and both round trips. Assumes nothing.
use Prim.Native.Nat.{ℕ, ◌<◌}
use mathlib.Core.Path.{◌≡◌}
use mathlib.Core.Logic.{◌↔◌}
use mathlib.Core.Bool.{true}
use mathlib.Core.List.{List}
use lib.ListN.{get_or}
use Rattle.policy.specs.declared.Policy.{Policy}
use Rattle.policy.specs.Good.{Good}
use Rattle.requests.specs.declared.Request.{Request}
use Rattle.reading.specs.File.{Accepted, Refused}
use Rattle.reading.specs.File.{read_policy}
use Rattle.parts.specs.Parts.{is_table}
use Rattle.layout.specs.Layout.{policy_bytes}
use Rattle.trips.specs.Refusals.{RefusedBy}
use Rattle.trips.proofs.Refusals.{refused_by, refused_if}
use Rattle.trips.proofs.ReadWritten.{read_written_policy}
use Rattle.trips.proofs.WrittenRead.{written_read_policy}
use Rattle.entries.specs.Entries.{CheckOf, RequestOf, ListOf, QuestionOf, TableOf}
use Rattle.entries.specs.Outcomes.{BadFile}
use Rattle.entries.proofs.Refused as entries

-- "each refusal is given exactly when its condition is the first that holds", of 20 to 27

-- by what a file is refused: which number of it fails at which place, the first in reading order; then bytes left over; then a fault
pub bad_exactly : (s : List ℕ) {c p : ℕ} → ((read_policy s).how ≡ Refused c p) ↔ RefusedBy s c p
bad_exactly s = (refused_by s, refused_if s)

-- "Every public entry takes a policy as file bytes, and a bad file's refusal comes first, save after the table part's 1."
module _ {s : List ℕ} {r : ℕ} where
  pub check_bad : CheckOf s r → BadFile s r
  check_bad = entries.check_bad s

  pub request_bad : {x : Request} {o a : List ℕ} → RequestOf s x o r a → BadFile s r
  request_bad = entries.request_bad s

  pub listing_bad : {officer : ℕ} {o a : List ℕ} → ListOf s officer o r a → BadFile s r
  listing_bad = entries.listing_bad s

  pub question_bad : {user permission : ℕ} → QuestionOf s user permission r → BadFile s r
  question_bad = entries.question_bad s

  pub table_bad : {k : ℕ} → is_table k ≡ true → TableOf s k r → BadFile s r
  table_bad = entries.table_bad s

-- "Policies go to files and come back the same, and a file that is read is written again with the same bytes."

-- any policy that the requests reach is good, so this holds of each of them
pub come_back : (p : Policy) → Good p → read_policy (policy_bytes p) ≡ record { how = Accepted; policy = p }
come_back = read_written_policy

-- s is a list of bytes
pub same_bytes : (s : List ℕ) → ((k : ℕ) → get_or s k 0 < 256) → (read_policy s).how ≡ Accepted → policy_bytes (read_policy s).policy ≡ s
same_bytes = written_read_policy
