-- Document 01, "The listing": "For an officer: every request of kinds 5 to 8 that would be accepted, ordered by kind, then a, then b, three bytes
-- each (kind, a, b), from the start of the lent buffer; the count of entries is returned and later bytes stay."
use Rattle.std.specs.Prelude.{◌≡◌, Bool, List, [], ◌∷◌, ℕ, Result, Ok, Err, ◌+◌, ◌*◌, ◌/◌, ◌%◌, ◌<◌, ◌≤◌, eqb, leb, ltb, length, get_or}
use Rattle.std.proofs.lemmas.List.Edits.{sets}
use Rattle.sets.specs.Tests.{pick}
use Rattle.sets.specs.Sets.{has, count, set_of}
use Rattle.policy.specs.declared.Policy.{Policy}
use Rattle.policy.specs.declared.Refusal.{Refusal}
use Rattle.policy.specs.declared.Refusal.TheVariants.{UnknownName, BufferTooShort}
use Rattle.requests.specs.Requests.{ask, decide}
use Rattle.number.specs.Run.{each}

-- the request would be accepted from the officer
unfoldable pub accepts : Policy → ℕ → ℕ → ℕ → ℕ → Bool
accepts p o kind a b = eqb (decide p (ask o kind a b)).outcome 0

-- All requests of kinds 5 to 8 with roles below 64, ordered by kind, then a, then b: the kind, a and b of the one at place i. There are
-- 4 times 64 times 64.
abbrev pub kind_at : ℕ → ℕ
kind_at i = 5 + i / 4096

abbrev pub a_at : ℕ → ℕ
a_at i = i / 64 % 64

abbrev pub b_at : ℕ → ℕ
b_at i = i % 64

abbrev pub place_count : ℕ
place_count = 16384

-- the one at place i would be accepted
unfoldable pub listed_at : Policy → ℕ → ℕ → Bool
listed_at p o i = accepts p o (kind_at i) (a_at i) (b_at i)

-- how many would be
unfoldable pub entry_count : Policy → ℕ → ℕ
entry_count p o = count place_count (listed_at p o)

-- "three bytes each (kind, a, b)"
abbrev pub entry : ℕ → List ℕ
entry i = kind_at i ∷ a_at i ∷ b_at i ∷ []

-- the bytes of those places at which a test passes
unfoldable pub entries_of : (ℕ → Bool) → List ℕ
entries_of f = each (λ i. pick (f i) (entry i) []) place_count 0

unfoldable pub entries_for : Policy → ℕ → List ℕ
entries_for p o = entries_of (listed_at p o)

-- "Refused with 2 for an unknown officer, else with 10 exactly if 3 times the count exceeds the buffer"
unfoldable pub listed : Policy → ℕ → ℕ → Result ℕ Refusal
listed p o room =
    pick (leb p.people.users.count o) (Err UnknownName)
    (pick (ltb room (3 * entry_count p o)) (Err BufferTooShort) (Ok (entry_count p o)))

-- "the count is 0 and nothing is written then"
unfoldable pub filled : Policy → ℕ → List ℕ → List ℕ
filled p o out =
    pick (leb p.people.users.count o) out (pick (ltb (length out) (3 * entry_count p o)) out (sets out 0 (entries_for p o)))

-- what a listing leaves: the answer, and every byte of the buffer
pub record ListingOf (p : Policy) (o : ℕ) (before : List ℕ) (answer : Result ℕ Refusal) (after : List ℕ) : Type 0 where
  pub is : answer ≡ listed p o (length before)
  pub bytes : after ≡ filled p o before

-- ---- what a reader of the buffer finds: the entry at n is (k, a, b)
pub record EntryIs (bytes : List ℕ) (n k a b : ℕ) : Type 0 where
  pub kind : get_or bytes (3 * n) 0 ≡ k
  pub first : get_or bytes (3 * n + 1) 0 ≡ a
  pub second : get_or bytes (3 * n + 2) 0 ≡ b

-- an entry stands in the listing, at n
pub record InListing (p : Policy) (o n k a b : ℕ) : Type 0 where
  pub below : n < entry_count p o
  pub stands : EntryIs (entries_for p o) n k a b

-- "every request of kinds 5 to 8", of roles below 64
pub record InKinds (k a b : ℕ) : Type 0 where
  pub least : 5 ≤ k
  pub most : k ≤ 8
  pub first : a < 64
  pub second : b < 64

-- "ordered by kind, then a, then b": the first request comes before the second
pub data Earlier (k a b k' a' b' : ℕ) : Type 0 where
  by_kind : k < k' → Earlier k a b k' a' b'
  by_first : k ≡ k' → a < a' → Earlier k a b k' a' b'
  by_second : k ≡ k' → a ≡ a' → b < b' → Earlier k a b k' a' b'

-- the count of each answer; its number is `outcome_of`
unfoldable pub listed_count : Result ℕ Refusal → ℕ
listed_count (Ok n) = n
listed_count (Err r) = 0

-- ---- what is gathered before a byte is written: for each kind and a, place j of 4 times 64, the set of the b that would be accepted
unfoldable pub accepted_set : Policy → ℕ → ℕ → ℕ
accepted_set p o j = set_of 64 (accepts p o (5 + j / 64) (j % 64))

pub record AcceptedRows (p : Policy) (o : ℕ) (rows : List ℕ) : Type 0 where
  pub row : (j : ℕ) → j < 256 → get_or rows j 0 ≡ accepted_set p o j

-- place i is in the sets that were gathered
unfoldable pub in_rows : List ℕ → ℕ → Bool
in_rows rows i = has (get_or rows (i / 64) 0) (i % 64)
