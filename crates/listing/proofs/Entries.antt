-- The entries of a listing: each accepted request has exactly one, they stand in order, and their count is the number of accepted requests.
-- Assumes nothing.
use mathlib.Core.Path.{◌≡◌, refl, sym, ap, ap₂, ◌∙◌}
use mathlib.Core.Logic.{⊎_elim}
use mathlib.Core.Bool.{Bool, true, false}
use mathlib.Core.List.{List, [], ◌++◌, append_assoc}
use Prim.Native.Nat.{ℕ, zero, suc, ◌+◌, ◌-◌, ◌*◌, ◌/◌, ◌<◌, ◌≤◌}
use native.Mathlib.Nat.{add-zero, zero-add, not-suc-le-zero}
use native.Mathlib.Omega.{arith}
use lib.ListN.{length, get_or}
use lib.Seq.{get_or-append-add}
use Rattle.sets.specs.Tests.{pick}
use Rattle.sets.specs.Sets.{count}
use Rattle.sets.proofs.Digits.{lt_or_le}
use Rattle.sets.proofs.Quantifiers.{count_same, count_add}
use Rattle.number.specs.Run.{each}
use Rattle.listing.specs.Listing.{kind_at, a_at, b_at, place_count, entry, entries_of, EntryIs, InKinds, Earlier, by_kind, by_first, by_second}
use Rattle.listing.proofs.Laws.{each_length}

each_split : (g : ℕ → List ℕ) (m n i : ℕ) → each g (m + n) i ≡ each g m i ++ each g n (i + m)
unfolding each
each_split g zero n i = ap₂ (each g) (zero-add n) (sym (add-zero i))
each_split g (suc m) n i =
    let s : suc m + n ≡ suc (m + n) = omega arith in
    let e : i + 1 + m ≡ i + suc m = omega arith in
    rw s
    (ap (λ (l : List ℕ). g i ++ l) (each_split g m n (i + 1))
    ∙ sym (append_assoc (g i) (each g m (i + 1)) (each g n (i + 1 + m)))
    ∙ ap (λ (x : ℕ). (g i ++ each g m (i + 1)) ++ each g n x) e)

-- ---- a place that passes has its entry behind those of the places before it that pass
module _ (f : ℕ → Bool) (i : ℕ) (l : i < place_count) (t : f i ≡ true) where
  wanted : ℕ → List ℕ
  wanted k = pick (f k) (entry k) []

  before : List ℕ
  before = each wanted i 0

  after : List ℕ
  after = each wanted (place_count - (i + 1)) (i + 1)

  around : entries_of f ≡ before ++ (entry i ++ after)
  unfolding entries_of wanted before after each
  around =
      let s : place_count ≡ i + suc (place_count - (i + 1)) = omega arith in
      ap (λ (x : ℕ). each wanted x 0) s ∙ each_split wanted i (suc (place_count - (i + 1))) 0
      ∙ ap (λ (x : ℕ). before ++ each wanted (suc (place_count - (i + 1))) x) (zero-add i)
      ∙ ap (λ (e : List ℕ). before ++ (e ++ after)) here
    where
      here : wanted i ≡ entry i
      here = rw t

  before_long : length before ≡ 3 * count i f
  unfolding before wanted
  before_long = each_length f i 0 ∙ ap (λ (x : ℕ). 3 * x) (count_same i _ _ (λ k h. ap f (zero-add k)))

  byte_at : (j : ℕ) → get_or (entries_of f) (3 * count i f + j) 0 ≡ get_or (entry i ++ after) j 0
  byte_at j =
      ap (λ (x : List ℕ). get_or x (3 * count i f + j) 0) around
      ∙ ap (λ (x : ℕ). get_or (before ++ (entry i ++ after)) (x + j) 0) (sym before_long)
      ∙ get_or-append-add before (entry i ++ after) j 0

  pub entry_stands : EntryIs (entries_of f) (count i f) (kind_at i) (a_at i) (b_at i)
  entry_stands =
      record { kind = ap (λ (x : ℕ). get_or (entries_of f) x 0) (sym (add-zero (3 * count i f))) ∙ byte_at 0; first = byte_at 1; second = byte_at 2 }

-- ---- counting up to a place
count_one : (f : ℕ → Bool) (i : ℕ) → f i ≡ true → count (suc i) f ≡ count i f + 1
unfolding count
count_one f i t = rw t

count_more : (f : ℕ → Bool) (i j : ℕ) → i ≤ j → count i f ≤ count j f
count_more f i j l =
    let d : j ≡ i + (j - i) = omega arith in
    let e : count j f ≡ count i f + count (j - i) (λ k. f (i + k)) = ap (λ (x : ℕ). count x f) d ∙ count_add i (j - i) f in
    omega arith

pub count_below : (f : ℕ → Bool) (i w : ℕ) → i < w → f i ≡ true → count i f < count w f
count_below f i w l t = omega (arith, count_one f i t, count_more f (suc i) w l)

-- the place of the entry at n: it passes, and n places before it do
pub record PlaceOf (f : ℕ → Bool) (w n : ℕ) : Type 0 where
  pub place : ℕ
  pub within : place < w
  pub passes : f place ≡ true
  pub before : count place f ≡ n

pub place_holding : (f : ℕ → Bool) (w n : ℕ) → n < count w f → PlaceOf f w n
unfolding count
place_holding f zero n l = absurd (not-suc-le-zero l)
place_holding f (suc w) n l = ⊎_elim (λ m. wider (place_holding f w n m)) (λ m. last (f w) refl l m) (lt_or_le n (count w f))
  where
    wider : PlaceOf f w n → PlaceOf f (suc w) n
    wider p = record { place = p.place; within = omega (arith, p.within); passes = p.passes; before = p.before }

    last : (b : Bool) → f w ≡ b → n < count w f + pick b 1 0 → count w f ≤ n → PlaceOf f (suc w) n
    last true e h m = record { place = w; within = omega arith; passes = e; before = omega arith }
    last false e h m = absurd (omega arith)

-- a later entry stands for a later place
pub later_place : (f : ℕ → Bool) {w n m : ℕ} (x : PlaceOf f w n) (y : PlaceOf f w m) → n < m → x.place < y.place
later_place f x y l =
    ⊎_elim (λ h. h) (λ h. absurd (omega (arith, count_more f y.place x.place h, x.before, y.before))) (lt_or_le x.place y.place)

-- ---- places and requests
-- the place of a request
abbrev pub place_for : ℕ → ℕ → ℕ → ℕ
place_for k a b = (k - 5) * 4096 + a * 64 + b

module _ {k a b : ℕ} (h : InKinds k a b) where
  pub place_within : place_for k a b < place_count
  place_within = omega (arith, h.least, h.most, h.first, h.second)

  pub place_kind : kind_at (place_for k a b) ≡ k
  place_kind = omega (arith, h.least, h.most, h.first, h.second)

  pub place_first : a_at (place_for k a b) ≡ a
  place_first = omega (arith, h.least, h.most, h.first, h.second)

  pub place_second : b_at (place_for k a b) ≡ b
  place_second = omega (arith, h.least, h.most, h.first, h.second)

pub place_in_kinds : (i : ℕ) → i < place_count → InKinds (kind_at i) (a_at i) (b_at i)
place_in_kinds i l = record { least = omega arith; most = omega arith; first = omega arith; second = omega arith }

-- an earlier place has the earlier request
pub place_before : (i j : ℕ) → i < j → Earlier (kind_at i) (a_at i) (b_at i) (kind_at j) (a_at j) (b_at j)
place_before i j l =
    ⊎_elim (λ h. by_kind (omega arith))
    (λ h. ⊎_elim (λ g. by_first (omega arith) g) (λ g. by_second (omega arith) (omega arith) (omega arith)) (lt_or_le (a_at i) (a_at j)))
    (lt_or_le (i / 4096) (j / 4096))
