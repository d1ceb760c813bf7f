-- The useless versions that document 01 lists do not pass: no version of an entry that behaves so meets the entry's contract (specs/Versions.antt).
-- The witness is F, the department's policy.
-- Assumes nothing.
use Prim.Native.Nat.{ℕ, ◌≤◌, ◌<◌}
use mathlib.Core.Path.{◌≡◌, refl, sym, ap, ◌∙◌, subst}
use mathlib.Core.List.{List, [], ◌∷◌}
use native.Mathlib.Omega.{arith}
use lib.ListN.{length, get_or, replicate, length-replicate}
use lib.Seq.{sets}
use Rattle.policy.specs.declared.Policy.{Policy}
use Rattle.policy.specs.Outcome.{Answer}
use Rattle.policy.specs.Build.{with_roles}
use Rattle.policy.specs.Outcome.{accepted}
use Rattle.requests.specs.declared.Request.{Request}
use Rattle.requests.specs.Requests.{ask, decide}
use Rattle.requests.specs.Examples.{order_of, F}
use Rattle.requests.proofs.Cases.{rules_opened}
use Rattle.reading.specs.File.{Accepted}
use Rattle.reading.specs.File.{Loaded}
use Rattle.reading.specs.File.{read_policy}
use Rattle.layout.specs.Layout.{policy_bytes}
use Rattle.layout.proofs.Opened.{writing_opened}
use Rattle.listing.specs.Listing.{EntryIs}
use Rattle.answers.specs.Answers.{packed, apart}
use Rattle.answers.proofs.Laws.{outcome_of}
use Rattle.entries.specs.Entries.{RequestOf, request_fields, request_bytes}
use Rattle.entries.specs.Steps.{here}
use Rattle.entries.proofs.Promised.{request_done, byte_in}
use Rattle.promises.specs.Department.{department_file}
use Rattle.promises.specs.Versions.{CheckVersion, RequestVersion, ListingVersion, MeetsCheck, MeetsRequest, MeetsListing, Known}
use Rattle.promises.specs.Versions.{RefusesFiles, RefusesRequests, AcceptsRequests, Copies, EchoesLater, SameListing, Invents}
use Rattle.promises.proofs.Demand2.{outcome_decided, accepted_file, accepted_policy}
use Rattle.promises.proofs.Others.{check_accepts, listing_enough}
use Rattle.promises.proofs.Demand3.{counted, listed-accepted_by_entry, accepted-listed_by_entry}
use Rattle.promises.proofs.Department.{department_loads}

-- ---- the witness: what u0 asks of F, and what comes of it, by computation

-- case 1, u0 inserts (QE1, PE1), and then case 8, u0 creates under PL1 over PE1: two different requests
abbrev insertion : Request
insertion = ask 0 7 4 3

abbrev creation : Request
creation = ask 0 5 5 3

-- the policy after the one, and after both
abbrev inserted : Policy
inserted = with_roles F (order_of 2047 (0 ∷ 1 ∷ 3 ∷ 7 ∷ 15 ∷ 31 ∷ 3 ∷ 67 ∷ 67 ∷ 451 ∷ 1023 ∷ []))

abbrev created : Policy
created = with_roles F (order_of 4095 (0 ∷ 1 ∷ 3 ∷ 7 ∷ 15 ∷ 2079 ∷ 3 ∷ 67 ∷ 67 ∷ 451 ∷ 3071 ∷ 15 ∷ []))

insertion_accepted : decide F insertion ≡ accepted inserted 0
unfolding F rules_opened
insertion_accepted = refl

creation_accepted : decide inserted creation ≡ accepted created 11
unfolding F rules_opened
creation_accepted = refl

-- case 3, u0 inserts (QE1, PE2); and u2, who holds no administrative role, inserts what u0 may
refusals : ((decide F (ask 0 7 4 7)).outcome ≡ 3) × ((decide F (ask 2 7 4 3)).outcome ≡ 3)
unfolding F rules_opened
refusals = (refl, refl)

-- what tells the files apart: byte 7, the juniors of QE1, and byte 2, the set of roles
bytes_differ : (get_or department_file 7 0 ≡ 7) × (get_or (policy_bytes inserted) 7 0 ≡ 15) × (get_or (policy_bytes inserted) 2 0 ≡ 15)
    × (get_or (policy_bytes created) 2 0 ≡ 31)
unfolding F writing_opened
bytes_differ = (refl, refl, refl, refl)

longer : (7 < length department_file) × (length (policy_bytes inserted) ≡ 48) × (2 < length (policy_bytes created))
unfolding F writing_opened
longer = (omega arith, refl, omega arith)

-- ---- F's file and its officers u0 and u2

department_policy : (read_policy department_file).policy ≡ F
department_policy = ap (λ (m : Loaded). m.policy) department_loads

three_users : F.people.users.count ≡ 3
unfolding F
three_users = refl

officer_known : (officer : ℕ) → officer < 3 → Known department_file officer
officer_known officer l =
    record {
      loaded = ap (λ (m : Loaded). m.how) department_loads;
      user = omega (arith, l, three_users, ap (λ (p : Policy). p.people.users.count) department_policy);
    }

-- buffers that are always long enough
abbrev room : List ℕ
room = replicate 10375 0

long : 10375 ≤ length room
long = omega (arith, length-replicate {A = ℕ} 10375 0)

abbrev wide : List ℕ
wide = replicate 37056 0

wide_long : 37056 ≤ length wide
wide_long = omega (arith, length-replicate {A = ℕ} 37056 0)

-- what the request's entry gives on F is what the rules give
outcome_on_F : {x : Request} {o a : List ℕ} {r : ℕ} → RequestOf department_file x o r a → 10375 ≤ length o → (apart r).outcome ≡ (decide F x).outcome
outcome_on_F {x} w l =
    outcome_decided w (officer_known 0 (omega arith)).loaded l ∙ ap (λ (p : Policy). (decide p x).outcome) department_policy

-- where a request is accepted and leaves the policy q, a buffer to which the file s was copied is another, if s and q's file differ at a byte
not_copied : {s : List ℕ} {x : Request} {o a : List ℕ} {r : ℕ} (w : RequestOf s x o r a) (z : (apart r).outcome ≡ 0) {q : Policy}
    → (decide (read_policy s).policy x).policy ≡ q → (i : ℕ) → i < length s → i < length (policy_bytes q)
    → length s ≤ length o → (get_or s i 0 ≡ get_or (policy_bytes q) i 0 → ⊥) → a ≡ sets o 0 s → ⊥
not_copied {s} {x} {o} {a} w z {q} d i l m n differ copied =
    let done = request_done s x o w z in
    let file = ap policy_bytes d in
    let big : length (policy_bytes q) ≤ length o = rw file at done.room in
    let bytes : a ≡ sets o 0 (policy_bytes q) = rw file at done.bytes in
    differ (sym (byte_in s o i n l) ∙ ap (λ (b : List ℕ). get_or b i 0) (sym copied ∙ bytes) ∙ byte_in (policy_bytes q) o i big m)

-- ---- versions of the check

pub not_refusing_files : (f : CheckVersion) → MeetsCheck f → RefusesFiles f → ⊥
not_refusing_files f meets h =
    h department_file (outcome_of (check_accepts (meets department_file) (officer_known 0 (omega arith)).loaded))

-- ---- versions of the request

module _ (f : RequestVersion) (meets : MeetsRequest f) where
  inserts : (apart (f department_file insertion room).0).outcome ≡ 0
  inserts = outcome_on_F (meets department_file insertion room) long ∙ ap (λ (d : Answer). d.outcome) insertion_accepted

  pub not_refusing_requests : RefusesRequests f → ⊥
  not_refusing_requests h = h department_file insertion room (officer_known 0 (omega arith)) long inserts

  pub not_accepting_requests : AcceptsRequests f → ⊥
  not_accepting_requests h =
      let x = ask 0 7 4 7 in
      let z = h department_file x room (officer_known 0 (omega arith)) long in
      let y = outcome_on_F (meets department_file x room) long ∙ refusals.0 in
      omega arith

  pub not_copying : Copies f → ⊥
  not_copying h =
      let d = ap (λ (p : Policy). (decide p insertion).policy) department_policy ∙ ap (λ (a : Answer). a.policy) insertion_accepted in
      not_copied (meets department_file insertion room) inserts d 7 longer.0 (omega (arith, longer.1)) (omega (arith, long))
      (λ e. omega (arith, bytes_differ.0, bytes_differ.1, e)) (h department_file insertion room (officer_known 0 (omega arith)) long inserts)

-- a second request, on the file that the first one left: s is that file
not_copying_later : (f : RequestVersion) → MeetsRequest f → {s : List ℕ} → s ≡ policy_bytes inserted
    → read_policy s ≡ record { how = Accepted; policy = inserted } → Copies f → ⊥
not_copying_later f meets {s} file loads h =
    let ok = ap (λ (m : Loaded). m.how) loads in
    let p : (read_policy s).policy ≡ inserted = ap (λ (m : Loaded). m.policy) loads in
    let d : decide (read_policy s).policy creation ≡ accepted created 11 = ap (λ (q : Policy). decide q creation) p ∙ creation_accepted in
    let w = meets s creation room in
    let z = outcome_decided w ok long ∙ ap (λ (a : Answer). a.outcome) d in
    let k : Known s 0 = record { loaded = ok; user = omega (arith, three_users, ap (λ (q : Policy). q.people.users.count) p) } in
    let size = ap length file ∙ longer.1 in
    not_copied w z (ap (λ (a : Answer). a.policy) d) 2 (omega (arith, size)) longer.2 (omega (arith, size, long))
    (λ e. omega (arith, ap (λ (b : List ℕ). get_or b 2 0) file, bytes_differ.2, bytes_differ.3, e)) (h s creation room k long z)

pub not_echoing : (f : ℕ → RequestVersion) → ((n : ℕ) → MeetsRequest (f n)) → EchoesLater f → ⊥
not_echoing f meets h =
    let w = meets 0 department_file insertion room in
    let z = inserts (f 0) (meets 0) in
    let d : (decide (read_policy department_file).policy insertion).policy ≡ inserted =
    ap (λ (p : Policy). (decide p insertion).policy) department_policy ∙ ap (λ (a : Answer). a.policy) insertion_accepted in
    not_copying_later (f 1) (meets 1) (accepted_file w z ∙ ap policy_bytes d) (rw d at (accepted_policy w z)) (h 0)

-- ---- versions of the listing

-- what the request's entry itself answers, to hold a listing against
entry : RequestVersion
entry s x o = (packed (request_fields s x o), request_bytes s x o)

entry_meets : MeetsRequest entry
unfolding entry
entry_meets s x o = record { answer = refl; bytes = refl }

module _ (f : ListingVersion) (meets : MeetsListing f) where
  listed : (officer : ℕ) → officer < 3 → (apart (f department_file officer wide).0).outcome ≡ 0
  listed officer l =
      let k = officer_known officer l in
      listing_enough department_file k.loaded (meets department_file officer wide) k.user wide_long

  -- u0's listing has the insertion, and u2's has not
  pub not_same : SameListing f → ⊥
  not_same h =
      let k = officer_known 0 (omega arith) in
      let w = entry_meets department_file insertion room in
      let e =
      accepted-listed_by_entry k.loaded here 0 (meets department_file 0 wide) (listed 0 (omega arith)) {k = 7} (omega arith) (omega arith) w
      (inserts entry entry_meets) in
      let same = h department_file department_file 0 2 wide k (officer_known 2 (omega arith)) wide_long in
      let v = entry_meets department_file (ask 2 7 4 3) room in
      let y =
      listed-accepted_by_entry k.loaded here 2 (meets department_file 2 wide) (listed 2 (omega arith))
      (subst (λ (g : ℕ × List ℕ). e.0 < (apart g.0).length) same e.1)
      (subst (λ (g : ℕ × List ℕ). EntryIs g.1 e.0 7 4 3) same e.2) v long in
      omega (arith, y.1, outcome_on_F v long, refusals.1)

  pub not_inventing : Invents f → ⊥
  not_inventing h =
      let k = h.known in
      let w = meets h.file h.officer h.buffer in
      let z = listing_enough h.file k.loaded w k.user h.room in
      h.other (counted k.loaded here h.officer w z)
