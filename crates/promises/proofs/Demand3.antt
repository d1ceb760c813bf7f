-- Demand 3. Assumes nothing.
use Prim.Native.Nat.{ℕ, ◌+◌, ◌*◌, ◌≤◌, ◌<◌}
use mathlib.Core.Path.{◌≡◌, sym, ap, ◌∙◌}
use mathlib.Core.Logic.{◌⊎◌}
use mathlib.Core.Bool.{true}
use mathlib.Core.List.{List}
use native.Mathlib.Omega.{arith}
use borrow.Author.Tests.{eqb-true, eq-eqb}
use lib.ListN.{length, get_or}
use Rattle.sets.specs.Sets.{has}
use Rattle.order.specs.Order.{senior}
use Rattle.policy.specs.declared.Policy.{Policy}
use Rattle.policy.specs.Good.{Good}
use Rattle.hierarchy.specs.Rules.{site}
use Rattle.safety.specs.Dominance.{Kept, Outside}
use Rattle.requests.specs.Requests.{ask, decide}
use Rattle.requests.proofs.Decided.{every_request}
use Rattle.number.specs.Number.{part}
use Rattle.reading.specs.File.{Accepted}
use Rattle.reading.specs.File.{Loaded}
use Rattle.reading.specs.File.{read_policy}
use Rattle.reading.proofs.Theorems.{accepted_good}
use Rattle.listing.specs.Listing.{accepts, entry_count, entries_for, EntryIs, InListing, InKinds, Earlier}
use Rattle.listing.proofs.Promised.{bytes_long, listed-accepted, exactly, ascending, listed_safe, listed_good, untouched}
use Rattle.answers.specs.Answers.{apart}
use Rattle.answers.proofs.Laws.{length_of}
use Rattle.entries.specs.Entries.{RequestOf, ListOf}
use Rattle.entries.specs.Steps.{FileReached}
use Rattle.entries.proofs.Promised.{ListingDone, listing_done, byte_in, file_reached}
use Rattle.promises.proofs.Demand2.{accepted_only, room_enough, accepted_policy}

-- "In every policy reached from a loaded one, for every officer": start is a file that was loaded, file one that requests reach from it, s its
-- policy, a the buffer after the listing's entry was asked and accepted.
module _ {start file : List ℕ} (ok : (read_policy start).how ≡ Accepted) (way : FileReached start file) (officer : ℕ) {o a : List ℕ} {r : ℕ}
    (w : ListOf file officer o r a) (z : (apart r).outcome ≡ 0) where
  abbrev s : Policy
  s = (read_policy file).policy

  loaded : (read_policy file).how ≡ Accepted
  loaded = (file_reached ok way).0

  good : Good s
  good = accepted_good file loaded

  done : ListingDone s officer o r a
  done = listing_done file officer o w z

  -- the count
  pub counted : (apart r).length ≡ entry_count s officer
  counted = length_of done.answer

  same_byte : (i : ℕ) → i < 3 * entry_count s officer → get_or a i 0 ≡ get_or (entries_for s officer) i 0
  same_byte i l =
      let m = bytes_long s officer in
      ap (λ (b : List ℕ). get_or b i 0) done.bytes ∙ byte_in (entries_for s officer) o i (omega (arith, m, done.room)) (omega (arith, m))

  in_listing : {n k x y : ℕ} → n < (apart r).length → EntryIs a n k x y → InListing s officer n k x y
  in_listing {n} l e =
      let m : n < entry_count s officer = omega (arith, counted) in
      record {
        below = m;
        stands = record {
          kind = sym (same_byte (3 * n) (omega arith)) ∙ e.kind;
          first = sym (same_byte (3 * n + 1) (omega arith)) ∙ e.first;
          second = sym (same_byte (3 * n + 2) (omega arith)) ∙ e.second;
        };
      }

  in_buffer : {n k x y : ℕ} → InListing s officer n k x y → (n < (apart r).length) × EntryIs a n k x y
  in_buffer {n} h =
      let m = h.below in (
        omega (arith, counted, m),
        record {
          kind = same_byte (3 * n) (omega (arith, m)) ∙ h.stands.kind;
          first = same_byte (3 * n + 1) (omega (arith, m)) ∙ h.stands.first;
          second = same_byte (3 * n + 2) (omega (arith, m)) ∙ h.stands.second;
        },
      )

  -- "the listing holds exactly the create, delete-role, insert-edge and delete-edge requests that would be accepted"

  -- what stands in it is a request of kinds 5 to 8 of roles below 64, and is accepted from this officer in any buffer that is long enough
  pub listed-accepted_by_entry : {n k x y : ℕ} → n < (apart r).length → EntryIs a n k x y → {o' a' : List ℕ} {r' : ℕ}
      → RequestOf file (ask officer k x y) o' r' a' → 10375 ≤ length o' → InKinds k x y × ((apart r').outcome ≡ 0)
  unfolding accepts
  listed-accepted_by_entry {n} {k} {x} {y} l e v m =
      let h = listed-accepted s officer (in_listing l e) in
      (h.1, room_enough v loaded (sym (every_request s (ask officer k x y)).outcome ∙ eqb-true _ 0 h.0) m)

  -- and a request of kinds 5 to 8 that is accepted stands in it
  pub accepted-listed_by_entry : {k x y : ℕ} → 5 ≤ k → k ≤ 8 → {o' a' : List ℕ} {r' : ℕ} → RequestOf file (ask officer k x y) o' r' a'
      → (apart r').outcome ≡ 0 → (n : ℕ) × (n < (apart r).length) × EntryIs a n k x y
  unfolding accepts
  accepted-listed_by_entry {k} {x} {y} l m v t =
      let q = (every_request s (ask officer k x y)).outcome ∙ (accepted_only v loaded t).0 in
      let b = in_buffer (exactly s officer good k x y l m (eq-eqb _ 0 q)) in
      (_, b.0, b.1)

  -- "each once, in order": an earlier entry comes before a later one, by kind, then first number, then second
  pub in_order : {n m k x y k' x' y' : ℕ} → n < m → m < (apart r).length → EntryIs a n k x y → EntryIs a m k' x' y' → Earlier k x y k' x' y'
  in_order h l d e = ascending s officer (in_listing (omega arith) d) (in_listing l e) h

  -- "Carrying out any of them": the request's entry was asked for what stands at n, and accepted it
  module _ {n k x y : ℕ} (l : n < (apart r).length) (e : EntryIs a n k x y) {o' a' : List ℕ} {r' : ℕ} (v : RequestOf file (ask officer k x y) o' r' a')
      (t : (apart r').outcome ≡ 0) where
    -- the policy that is then in the buffer
    abbrev after : Policy
    after = (read_policy (part a' 0 (apart r').length)).policy

    after_is : after ≡ (decide s (ask officer k x y)).policy
    after_is = ap (λ (m : Loaded). m.policy) (accepted_policy v t)

    -- "leaves no cycle, every authority range encapsulated, no two overlapping in part; two roles keep their dominance unless both lie strictly
    -- inside one range this officer may modify."
    pub carried_safe : Kept (site s officer) after.orders.roles
    carried_safe = rw after_is (listed_safe s officer good (in_listing l e))

    -- and all of this holds of it again
    pub carried_good : Good after
    carried_good = rw after_is (listed_good s officer good (in_listing l e))

    -- Which of those changes reaches line 7? None, where one of two roles lies outside every range that this officer may modify.
    pub carried_untouched : (c d : ℕ) → has s.orders.roles.used c ≡ true → has s.orders.roles.used d ≡ true
        → has after.orders.roles.used c ≡ true
        → has after.orders.roles.used d ≡ true → Outside (site s officer) c ⊎ Outside (site s officer) d
        → senior after.orders.roles.juniors c d ≡ senior s.orders.roles.juniors c d
    carried_untouched c d uc ud vc vd h =
        rw after_is (untouched s officer good (in_listing l e) c d uc ud (rw (← after_is) vc) (rw (← after_is) vd) h)
