-- What the reader promises: an accepted file gives a good policy, a refused one none, with one of its numbers at a place of the input.
-- Assumes nothing.
use Prim.Native.Nat.{ℕ}
use mathlib.Core.Path.{◌≡◌, refl}
use mathlib.Core.List.{List}
use native.Mathlib.Omega.{arith}
use lib.ListN.{length}
use Rattle.sets.proofs.Tests.{or_fails_l, or_fails_r}
use Rattle.policy.specs.Build.{empty_policy}
use Rattle.policy.specs.Good.{Good}
use Rattle.number.specs.Run.{Step, go, stop}
use Rattle.sections.proofs.Bounds.{RefusedWithin}
use Rattle.faults.proofs.Means.{no_fault, strict_means, sound_rows}
use Rattle.reading.specs.File.{Accepted, Refused}
use Rattle.reading.specs.declared.File.{File}
use Rattle.reading.specs.File.{file_at, loaded, read_policy}
use Rattle.reading.proofs.Right.{front_right, rest_right, file_whole}
use Rattle.reading.proofs.Bounds.{front_end, Placed, rest_placed, file_within}

-- ---- what the reader answers is a step's end

of_accepted : (w : Step File) → (loaded w).how ≡ Accepted → (e : ℕ) × (f : File) × (w ≡ go e f)
of_accepted (go e f) q = (e, f, refl)
of_accepted (stop c p) q = absurd (let z : ◌≡◌ {A = ℕ} 0 1 = cc in omega arith)

pub of_refused : (w : Step File) {c p : ℕ} → (loaded w).how ≡ Refused c p → w ≡ stop c p
of_refused (go e f) q = absurd (let z : ◌≡◌ {A = ℕ} 0 1 = cc in omega arith)
of_refused (stop c p) q = cc

module _ (s : List ℕ) where
  -- ---- a file that is accepted

  -- it is read to its last byte
  pub file_end : {e : ℕ} {f : File} → file_at s ≡ go e f → e ≡ length s
  file_end {e} {f} q =
      let w = file_whole s q in
      omega (arith, w.judged.over, (file_within s).ends e f q)

  -- its tables stand one after the other, each with a byte at least
  pub file_placed : {e : ℕ} {f : File} → file_at s ≡ go e f → Placed s f.places
  file_placed {e} {f} q =
      let w = file_whole s q in
      rw w.judged.is (rest_placed s (front_end s w.front_steps) w.rest_steps)

  -- its policy is good
  pub file_good : {e : ℕ} {f : File} → file_at s ≡ go e f → Good f.policy
  file_good {e} {f} q =
      let w = file_whole s q in
      let a = front_right s w.front_steps in
      let b = rest_right s w.rest_steps in
      let n = no_fault w.front.orders w.rest.modify w.judged.faultless in
      rw w.judged.is
      (record {
        sizes = record {
          users = a.people.size;
          permissions = a.permissions.size;
          assign = b.assign.size;
          revoke = b.revoke.size;
          assignp = b.assignp.size;
          revokep = b.revokep.size;
          modify = b.modify.size;
        };
        roles = record {
          strict = strict_means _ a.roles.rows a.roles.small (or_fails_l _ _ n.strict);
          in_use = a.roles.in_use;
          width = a.roles.width;
          rows = a.roles.rows;
          small = a.roles.small;
        };
        admins = record {
          strict = strict_means _ a.admins.rows a.admins.small (or_fails_r _ _ n.strict);
          in_use = a.admins.in_use;
          width = a.admins.width;
          rows = a.admins.rows;
          small = a.admins.small;
        };
        users = a.people.sets;
        offices = a.people.offices;
        permissions = a.permissions.sets;
        assign = b.assign.rows;
        revoke = b.revoke.rows;
        assignp = b.assignp.rows;
        revokep = b.revokep.rows;
        revoke_plain = b.revoke.plain refl;
        revokep_plain = b.revokep.plain refl;
        modify = b.modify.rows;
        sound = sound_rows w.front.orders.roles w.rest.modify a.roles.width a.roles.in_use n.low n.capsule n.apart;
      })

  pub accepted_good : (read_policy s).how ≡ Accepted → Good (read_policy s).policy
  unfolding read_policy
  accepted_good q = let w = of_accepted (file_at s) q in rw w.2 (file_good w.2)

  -- ---- a file that is refused

  module _ {c p : ℕ} (q : (read_policy s).how ≡ Refused c p) where
    -- "A refused read yields a policy with nothing in it."
    pub refused_empty : (read_policy s).policy ≡ empty_policy
    unfolding read_policy
    refused_empty = rw (of_refused (file_at s) q)

    -- the number is 20 to 27, and the place at most the input's length
    pub refused-within : RefusedWithin (length s) c p
    unfolding read_policy
    refused-within = (file_within s).refuses c p (of_refused (file_at s) q)
