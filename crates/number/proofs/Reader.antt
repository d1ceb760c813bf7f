-- What the reader answers, and what its loop keeps.
-- Assumes nothing.
use Prim.Native.Nat.{ℕ, suc, ◌+◌, ◌*◌, ◌-◌, ◌%◌, ◌^◌, ◌<◌, ◌≤◌}
use mathlib.Core.Path.{◌≡◌, refl, sym, ◌∙◌, ap, ap₂}
use mathlib.Core.Bool.{true, false}
use mathlib.Core.List.{List}
use native.Mathlib.Nat.{pow-succ', mod-eq_of_lt}
use native.Mathlib.Numerals.{add-one}
use native.Mathlib.Omega.{arith}
use borrow.Author.Tests.{lt-ltb, le-ltb, le-leb, lt-leb}
use lib.ListN.{length, get_or}
use Rattle.sets.specs.Tests.{◌or◌}
use Rattle.sets.proofs.Loops.{None, none_begin, none_turn, found_least, none_least}
use Rattle.number.specs.Number.{byte, ends, last_of, value_of, Before, is_long, is_over, ends_with, num_at}
use Rattle.number.specs.Number.{Value, Refused}
use Rattle.number.proofs.Values.{value_low, group_most, scale_most}
use Rattle.number.proofs.Numbers.{Number, number_is, number_fits, number_here}

-- ---- what the reader answers, by what it met at the last byte
module _ {s : List ℕ} {at last value scale : ℕ} (g : Before s at last value scale) where
  pub read_ended : length s ≤ last → Refused 20 (length s) ≡ num_at s at
  unfolding num_at ends_with
  read_ended h = let e = g.place in sym (rw (le-leb (length s) (at + last_of s at) (omega arith)))

  module _ {b n : ℕ} (h : last < length s) (e : b ≡ get_or s last 0) (d : n ≡ last - at) where
    last_place : n ≡ last_of s at
    last_place = omega (arith, g.place)

    last_byte : b ≡ byte s at (last_of s at)
    last_byte = e ∙ ap (λ (i : ℕ). get_or s i 0) g.place

    inside : at + last_of s at < length s
    inside = omega (arith, g.place)

    pub read_bad : (is_long n b or is_over n b) ≡ true → Refused 21 at ≡ num_at s at
    unfolding num_at ends_with
    read_bad t =
        sym (rw (lt-leb (length s) (at + last_of s at) inside, ← last_byte, ← last_place, t))

    module _ (l : is_long n b ≡ false) (o : is_over n b ≡ false) where
      number : Number 9 s at (last_of s at)
      number = number_here s at inside (rw (← last_byte, ← last_place) l) (rw (← last_byte, ← last_place) o)

      worth : value + b * scale ≡ value_of s at (suc (last_of s at))
      unfolding value_of
      worth = rw (g.value_is, g.scale_is, last_byte, mod-eq_of_lt number.low)

      -- the answer, and that it fits
      pub read_good : (Value (value + b * scale) (last + 1) ≡ num_at s at) × (value + b * scale < 2 ^ 64)
      read_good = (ap₂ Value worth (omega (arith, g.place)) ∙ sym (number_is number), rw worth (number_fits number))

-- ---- what the reader's loop keeps: n bytes are passed, each with its top bit set
pub record Reading (s : List ℕ) (at last value scale n : ℕ) : Type 0 where
  pub none : None (ends s at) n
  pub most : n ≤ 9
  pub place : last ≡ at + n
  pub value_is : value ≡ value_of s at n
  pub scale_is : scale ≡ 128 ^ n

pub reading_start : (s : List ℕ) (at : ℕ) → Reading s at at 0 1 0
unfolding value_of
reading_start s at = record { none = none_begin _; most = omega arith; place = omega arith; value_is = refl; scale_is = refl }

module _ {s : List ℕ} {at last value scale n : ℕ} (r : Reading s at last value scale n) where
  here : get_or s last 0 ≡ byte s at n
  here = ap (λ (i : ℕ). get_or s i 0) r.place

  module _ (h : n < 9) where
    -- the next scale fits, and so does the value
    pub reading_room : scale * 128 ≤ 2 ^ 63
    reading_room = omega (arith, r.scale_is, pow-succ' 128 n, scale_most n h)

    pub reading_low : (b : ℕ) → value + b % 128 * scale < scale * 128
    reading_low b =
        rw (r.value_is, r.scale_is) (omega (arith, value_low s at n, group_most b n))

    pub reading_more : {b : ℕ} → b ≡ get_or s last 0 → 128 ≤ b → Reading s at (last + 1) (value + b % 128 * scale) (scale * 128) (n + 1)
    unfolding value_of
    reading_more {b} e l =
        record {
          none = none_turn _ n r.none (le-ltb (byte s at n) 128 (omega (arith, here)));
          most = omega arith;
          place = omega (arith, r.place);
          value_is = rw (add-one n, r.value_is, r.scale_is, e, here);
          scale_is = rw (add-one n) (omega (arith, r.scale_is, pow-succ' 128 n));
        }

  before : n ≡ last_of s at → Before s at last value scale
  before e =
      record {
        place = r.place ∙ ap (λ (k : ℕ). at + k) e;
        value_is = r.value_is ∙ ap (λ (k : ℕ). value_of s at k) e;
        scale_is = r.scale_is ∙ ap (λ (k : ℕ). 128 ^ k) e;
      }

  -- the last byte is the one whose top bit is not set, or the tenth
  pub reading_last : n < 9 → get_or s last 0 < 128 → Before s at last value scale
  unfolding last_of
  reading_last h l =
      before (found_least 9 (ends s at) n h r.none (lt-ltb (byte s at n) 128 (omega (arith, here))))

  pub reading_tenth : 9 ≤ n → Before s at last value scale
  unfolding last_of
  reading_tenth h =
      let e : n ≡ 9 = omega (arith, r.most) in
      before (e ∙ none_least 9 (ends s at) n h r.none)
