-- Useless versions of the entries. Document 01, "What the contracts must say": "These useless versions must not pass: always refusing (..), always 0
-- and always the same listing (..); doing nothing but reporting acceptance (..); handling the first request and echoing later ones (..); an invented
-- entry count (..)." A version is a function from what an entry is given to its answer and the buffer after it. Each behaviour is asked for only where
-- the file is accepted, the officer known and the buffer always enough, so that a version that checks all these is not excused.
use Rattle.std.specs.Prelude.{ℕ, suc, ◌≤◌, ◌<◌, ◌≡◌, List, length}
use Rattle.std.proofs.lemmas.List.Edits.{sets}
use Rattle.requests.specs.declared.Request.{Request}
use Rattle.reading.specs.File.{Accepted}
use Rattle.reading.specs.File.{read_policy}
use Rattle.listing.specs.Listing.{entry_count}
use Rattle.answers.specs.Answers.{apart}
use Rattle.entries.specs.Entries.{CheckOf, RequestOf, ListOf}

abbrev pub CheckVersion : Type 0
CheckVersion = List ℕ → ℕ

abbrev pub RequestVersion : Type 0
RequestVersion = List ℕ → Request → List ℕ → ℕ × List ℕ

abbrev pub ListingVersion : Type 0
ListingVersion = List ℕ → ℕ → List ℕ → ℕ × List ℕ

-- ---- a version meets the contract of its entry, whatever it is given

abbrev pub MeetsCheck : CheckVersion → Type 0
MeetsCheck f = (s : List ℕ) → CheckOf s (f s)

abbrev pub MeetsRequest : RequestVersion → Type 0
MeetsRequest f = (s : List ℕ) (x : Request) (o : List ℕ) → RequestOf s x o (f s x o).0 (f s x o).1

abbrev pub MeetsListing : ListingVersion → Type 0
MeetsListing f = (s : List ℕ) (officer : ℕ) (o : List ℕ) → ListOf s officer o (f s officer o).0 (f s officer o).1

-- an accepted file, and an officer who is one of its users
pub record Known (s : List ℕ) (officer : ℕ) : Type 0 where
  pub loaded : (read_policy s).how ≡ Accepted
  pub user : officer < (read_policy s).policy.people.users.count

-- ---- the behaviours

-- "always refusing": a file, and a request
abbrev pub RefusesFiles : CheckVersion → Type 0
RefusesFiles f = (s : List ℕ) → (apart (f s)).outcome ≡ 0 → ⊥

abbrev pub RefusesRequests : RequestVersion → Type 0
RefusesRequests f =
    (s : List ℕ) (x : Request) (o : List ℕ) → Known s x.officer → 10375 ≤ length o → (apart (f s x o).0).outcome ≡ 0 → ⊥

-- "always 0", though files are checked
abbrev pub AcceptsRequests : RequestVersion → Type 0
AcceptsRequests f =
    (s : List ℕ) (x : Request) (o : List ℕ) → Known s x.officer → 10375 ≤ length o → (apart (f s x o).0).outcome ≡ 0

-- "doing nothing but reporting acceptance": whenever it reports acceptance, the file that it was given stands in the buffer
abbrev pub Copies : RequestVersion → Type 0
Copies f =
    (s : List ℕ) (x : Request) (o : List ℕ) → Known s x.officer → 10375 ≤ length o → (apart (f s x o).0).outcome ≡ 0
    → (f s x o).1 ≡ sets o 0 s

-- "handling the first request and echoing later ones": f n is what the version does once n requests were handled
abbrev pub EchoesLater : (ℕ → RequestVersion) → Type 0
EchoesLater f = (n : ℕ) → Copies (f (suc n))

-- "always the same listing", for every officer of every accepted file
abbrev pub SameListing : ListingVersion → Type 0
SameListing f = (s t : List ℕ) (m n : ℕ) (o : List ℕ) → Known s m → Known t n → 37056 ≤ length o → f s m o ≡ f t n o

-- "an invented entry count": for some officer of some accepted file it is not the number of requests that would be accepted
pub record Invents (f : ListingVersion) : Type 0 where
  pub file : List ℕ
  pub officer : ℕ
  pub buffer : List ℕ
  pub known : Known file officer
  pub room : 37056 ≤ length buffer
  pub other : (apart (f file officer buffer).0).length ≡ entry_count (read_policy file).policy officer → ⊥
