-- Writings one after the other: where there is room for two there is room for each, and two that were written are written as one.
-- Assumes nothing.
use Prim.Native.Nat.{ℕ, ◌+◌, ◌-◌, ◌<◌, ◌≤◌}
use mathlib.Core.Path.{◌≡◌, refl, sym, ◌∙◌, ap}
use mathlib.Core.List.{List, [], ◌++◌}
use native.Mathlib.Omega.{arith}
use lib.ListN.{length, take, drop, length-append, length-take, length-drop}
use lib.Seq.{length-sets}
use Rattle.number.specs.Run.{each}
use Rattle.number.proofs.Stores.{sets_append, rest_sets}
use Rattle.number.proofs.Puts.{Putting, put_room, put_step, put_over, put_end}
use Rattle.writers.specs.Writers.{Room, Wrote}

-- nothing written
pub wrote_none : (at : ℕ) (o : List ℕ) → Wrote [] at o at o
wrote_none at o = record { place = omega arith; bytes = refl }

-- other bytes that are the same
pub wrote_as : {a b : List ℕ} {at : ℕ} {o : List ℕ} {past : ℕ} {m : List ℕ} → a ≡ b → Wrote b at o past m → Wrote a at o past m
wrote_as e w = rw e w

module _ {a : List ℕ} {at : ℕ} {o : List ℕ} {mid : ℕ} {m : List ℕ} (w : Wrote a at o mid m) where
  pub wrote_long : length m ≡ length o
  wrote_long = ap length w.bytes ∙ length-sets o at a

  -- it ends within the buffer
  pub wrote_inside : Room a at o → mid ≤ length o
  wrote_inside h = omega (arith, w.place, h.fits)

  -- the next directly after it
  pub wrote_next : {b : List ℕ} {past : ℕ} {n : List ℕ} → Wrote b mid m past n → Wrote (a ++ b) at o past n
  wrote_next {b} v =
      record {
        place = omega (arith, w.place, v.place, length-append a b);
        bytes = v.bytes ∙ rw (w.bytes, w.place) (sym (sets_append a b o at));
      }

  -- the room that it leaves
  pub room_next : {b : List ℕ} → Room (a ++ b) at o → Room b mid m
  room_next {b} h = record { fits = omega (arith, w.place, wrote_long, length-append a b, h.fits) }

pub room_first : (a b : List ℕ) {at : ℕ} {o : List ℕ} → Room (a ++ b) at o → Room a at o
room_first a b h = record { fits = omega (arith, length-append a b, h.fits) }

pub room_as : {a b : List ℕ} {at : ℕ} {o : List ℕ} → a ≡ b → Room a at o → Room b at o
room_as e h = rw e at h

-- ---- a loop that writes each of N things
module _ {f : ℕ → List ℕ} {N : ℕ} {o₀ : List ℕ} {at i : ℕ} {o : List ℕ} {place : ℕ} (k : Putting f N o₀ at i o place) where
  pub put_fits : i < N → Room (each f N 0) at o₀ → Room (f i) place o
  put_fits h r = record { fits = put_room k h r.fits }

  pub put_wrote : {past : ℕ} {m : List ℕ} → i < N → Wrote (f i) place o past m → Putting f N o₀ at (i + 1) m past
  put_wrote h w = put_step k h refl w.bytes w.place

  pub wrote_each : N ≤ i → Wrote (each f N 0) at o₀ place o
  wrote_each h = record { place = put_end k h; bytes = put_over k h }

-- ---- the rest of the buffer, from where it was written to, lent on to the next writer
module _ {a : List ℕ} {at : ℕ} {o : List ℕ} {mid : ℕ} {m : List ℕ} (w : Wrote a at o mid m) where
  -- it is a part of the buffer
  pub rest-inside : (b : List ℕ) → Room (a ++ b) at o → mid ≤ length m
  rest-inside b h = omega (arith, w.place, wrote_long w, length-append a b, h.fits)

  pub room_rest : {b : List ℕ} → Room (a ++ b) at o → Room b 0 (take (length m - mid) (drop mid m))
  room_rest {b} h =
      record {
        fits =
            omega
            (arith, length-take (length m - mid) (drop mid m), length-drop mid m, (room_next w {b = b} h).fits, rest-inside b h);
      }

  -- what the next has written there stands directly after it
  pub wrote_rest : {b : List ℕ} {n : ℕ} {r : List ℕ} → Wrote b 0 (take (length m - mid) (drop mid m)) n r
      → Wrote (a ++ b) at o (mid + n) (take mid m ++ (r ++ drop (length m - mid) (drop mid m)))
  wrote_rest {b} v =
      wrote_next w
      (record {
        place = omega (arith, v.place);
        bytes = rw v.bytes (rest_sets m mid b refl);
      })

-- what follows of writings one after the other, for a search
pub ruleset chains = (
  room_first,
  room_next,
  room_as,
  wrote_none,
  wrote_as,
  wrote_next,
  wrote_long,
  wrote_inside,
  put_fits,
  put_wrote,
  wrote_each,
  rest-inside,
  room_rest,
  wrote_rest,
)
