-- What the writer of a policy answers and leaves: its two ways, and that nothing else meets its contract.
-- Assumes nothing.
use Prim.Native.Nat.{ℕ, ◌+◌, ◌<◌, ◌≤◌}
use mathlib.Core.Path.{◌≡◌, sym, ◌∙◌, ap}
use mathlib.Core.Logic.{◌⊎◌, inl, inr, ⊎_elim}
use mathlib.Core.Bool.{Bool, true, false}
use mathlib.Core.List.{List}
use native.Mathlib.Omega.{arith}
use borrow.Author.Tests.{lt-ltb, le-ltb, ltb-true, ltb-false}
use lib.Dec.{ltb}
use lib.ListN.{length, get_or}
use lib.Seq.{sets, length-sets}
use Rattle.std.specs.Prelude.{Result, Ok, Err}
use Rattle.sets.proofs.Digits.{lt_or_le}
use Rattle.policy.specs.declared.Policy.{Policy}
use Rattle.policy.specs.Good.{Good}
use Rattle.number.proofs.Parts.{stands_byte}
use Rattle.number.proofs.Stores.{sets_stands, sets_after}
use Rattle.layout.specs.Layout.{policy_bytes}
use Rattle.layout.proofs.Most.{always_enough}
use Rattle.policy.specs.declared.Refusal.{Refusal}
use Rattle.policy.specs.declared.Refusal.TheVariants.{BufferTooShort}
use Rattle.writers.specs.Writers.{Room, Wrote}
use Rattle.writing.specs.Writing.{Output, written_outcome, written_length, too_short, answer_of, bytes_after}

module _ (p : Policy) (o : List ℕ) where
  -- ---- the two ways

  -- the buffer is shorter: 10, and nothing is written
  pub short_answer : length o < length (policy_bytes p) → answer_of p o ≡ Err BufferTooShort
  unfolding answer_of too_short
  short_answer h = rw (lt-ltb (length o) (length (policy_bytes p)) h)

  pub short_bytes : length o < length (policy_bytes p) → bytes_after p o ≡ o
  unfolding bytes_after too_short
  short_bytes h = rw (lt-ltb (length o) (length (policy_bytes p)) h)

  -- it is not: the length, and the file from the start on
  pub long_answer : length (policy_bytes p) ≤ length o → answer_of p o ≡ Ok (length (policy_bytes p))
  unfolding answer_of too_short
  long_answer h = rw (le-ltb (length o) (length (policy_bytes p)) h)

  pub long_bytes : length (policy_bytes p) ≤ length o → bytes_after p o ≡ sets o 0 (policy_bytes p)
  unfolding bytes_after too_short
  long_bytes h = rw (le-ltb (length o) (length (policy_bytes p)) h)

  -- ---- as the code goes them

  module _ {short : Bool} (e : short ≡ ltb (length o) (length (policy_bytes p))) where
    pub output_short : short ≡ true → Output p o (Err BufferTooShort) o
    output_short h =
        let l = ltb-true (length o) (length (policy_bytes p)) (sym e ∙ h) in
        record { answer = sym (short_answer l); bytes = sym (short_bytes l) }

    module _ (h : short ≡ false) where
      fits : length (policy_bytes p) ≤ length o
      fits = ltb-false (length o) (length (policy_bytes p)) (sym e ∙ h)

      pub room_for : Room (policy_bytes p) 0 o
      room_for = record { fits = omega (arith, fits) }

      pub output_long : {past : ℕ} {m : List ℕ} → Wrote (policy_bytes p) 0 o past m → Output p o (Ok past) m
      output_long {past} w =
          let q : past ≡ length (policy_bytes p) = omega (arith, w.place) in
          record { answer = ap Ok q ∙ sym (long_answer fits); bytes = w.bytes ∙ sym (long_bytes fits) }

  -- ---- The answer and every byte follow from the inputs: two that meet the contract are equal.
  pub output_one : {r s : Result ℕ Refusal} {a b : List ℕ} → Output p o r a → Output p o s b → (r ≡ s) × (a ≡ b)
  output_one x y = (x.answer ∙ sym y.answer, x.bytes ∙ sym y.bytes)

  module _ {r : Result ℕ Refusal} {a : List ℕ} (x : Output p o r a) where
    short_way : length o < length (policy_bytes p) → (r ≡ Err BufferTooShort) × (a ≡ o)
    short_way h = (x.answer ∙ short_answer h, x.bytes ∙ short_bytes h)

    long_way : length (policy_bytes p) ≤ length o → (r ≡ Ok (length (policy_bytes p))) × (a ≡ sets o 0 (policy_bytes p))
    long_way h = (x.answer ∙ long_answer h, x.bytes ∙ long_bytes h)

    -- ---- "The writer refuses with 10 exactly if the buffer is shorter than the file"
    pub refused_if : length o < length (policy_bytes p) → written_outcome r ≡ 10
    unfolding written_outcome
    refused_if h = ap written_outcome (short_way h).0

    pub refused_only_if : written_outcome r ≡ 10 → length o < length (policy_bytes p)
    unfolding written_outcome
    refused_only_if q =
        ⊎_elim (λ h. h) (λ h. absurd (let z : ◌≡◌ {A = ℕ} 0 10 = sym (ap written_outcome (long_way h).0) ∙ q in omega arith))
        (lt_or_le (length o) (length (policy_bytes p)))

    -- "and nothing is written", "with length 0"
    pub refused_stays : written_outcome r ≡ 10 → (a ≡ o) × (written_length r ≡ 0)
    unfolding written_length
    refused_stays q = let w = short_way (refused_only_if q) in (w.1, ap written_length w.0)

    -- ---- otherwise 0, "the file's length is returned too", every byte up to it is the file's, "and bytes past the end stay"
    pub accepted : length (policy_bytes p) ≤ length o → (written_outcome r ≡ 0) × (written_length r ≡ length (policy_bytes p))
    unfolding written_outcome written_length
    accepted h = let w = (long_way h).0 in (ap written_outcome w, ap written_length w)

    pub accepted_bytes : length (policy_bytes p) ≤ length o → (k : ℕ) → k < length (policy_bytes p) → get_or a k 0 ≡ get_or (policy_bytes p) k 0
    accepted_bytes h k l =
        let e : 0 + k ≡ k = omega arith in
        ap (λ (s : List ℕ). get_or s k 0) (long_way h).1 ∙ rw e at (stands_byte (sets_stands o 0 (policy_bytes p) (omega arith)) k l)

    pub accepted_stays : length (policy_bytes p) ≤ length o → (k : ℕ) → length (policy_bytes p) ≤ k → get_or a k 0 ≡ get_or o k 0
    accepted_stays h k l = ap (λ (s : List ℕ). get_or s k 0) (long_way h).1 ∙ sets_after (policy_bytes p) o 0 k (omega arith)

    -- ---- it is one or the other, and the buffer keeps its length
    pub outcomes : (written_outcome r ≡ 0) ⊎ (written_outcome r ≡ 10)
    outcomes = ⊎_elim (λ h. inr (refused_if h)) (λ h. inl (accepted h).0) (lt_or_le (length o) (length (policy_bytes p)))

    pub same_long : length a ≡ length o
    same_long =
        ⊎_elim (λ h. ap length (short_way h).1) (λ h. ap length (long_way h).1 ∙ length-sets o 0 (policy_bytes p))
        (lt_or_le (length o) (length (policy_bytes p)))

    -- ---- "10,375 bytes are always enough for first number 1"
    module _ (g : Good p) where
      pub enough : 10375 ≤ length o → written_outcome r ≡ 0
      enough h = (accepted (omega (arith, always_enough p g))).0

      pub length_most : written_length r ≤ 10375
      unfolding written_length
      length_most =
          ⊎_elim (λ h. omega (arith, (refused_stays (refused_if h)).1)) (λ h. omega (arith, (accepted h).1, always_enough p g))
          (lt_or_le (length o) (length (policy_bytes p)))
