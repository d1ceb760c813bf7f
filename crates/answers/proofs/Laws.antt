-- Four numbers in one, and what is carried out. Assumes nothing.
use Prim.Native.Nat.{ℕ, ◌+◌, ◌*◌, ◌/◌, ◌%◌, ◌≤◌, ◌<◌}
use mathlib.Core.Path.{◌≡◌, refl, ap, ◌∙◌}
use mathlib.Core.Bool.{false}
use mathlib.Core.List.{List}
use native.Mathlib.Omega.{arith}
use borrow.Author.Tests.{ne_eqb}
use lib.Dec.{eqb}
use Rattle.std.specs.Prelude.{Result, Ok, Err}
use Rattle.policy.specs.declared.Policy.{Policy}
use Rattle.policy.specs.declared.Refusal.{Refusal}
use Rattle.policy.proofs.Changes.{number_between}
use Rattle.policy.specs.Good.{Good}
use Rattle.policy.specs.Outcome.{Answer, number, accepted}
use Rattle.writing.specs.Writing.{Output, written_outcome, written_length}
use Rattle.writing.proofs.Outputs.{length_most}
use Rattle.answers.specs.Answers.{Fields, Fit, fields, packed, apart, refusal, of_written}
use Rattle.answers.specs.Carried.{CarriedOut, carried_out, carried_bytes}

pub fits : {o n p l : ℕ} → o < 256 → n < 256 → p < 65536 → l < 4294967296 → Fit (fields o n p l)
fits a b c d = record { outcome = a; number = b; place = c; length = d }

-- one of four, where all four are known
pub outcome_of : {f g : Fields} → f ≡ g → f.outcome ≡ g.outcome
outcome_of e = ap (λ (h : Fields). h.outcome) e

pub place_of : {f g : Fields} → f ≡ g → f.place ≡ g.place
place_of e = ap (λ (h : Fields). h.place) e

pub length_of : {f g : Fields} → f ≡ g → f.length ≡ g.length
length_of e = ap (λ (h : Fields). h.length) e

-- the four come out again as they went in
pub apart-packed : (f : Fields) → Fit f → apart (packed f) ≡ f
unfolding packed apart
apart-packed f w =
    let high : packed f / 256 ≡ f.number + f.place * 256 + f.length * 16777216 = omega (arith, w.outcome) in
    let higher : packed f / 65536 ≡ f.place + f.length * 65536 = omega (arith, w.outcome, w.number) in
    let o : packed f % 256 ≡ f.outcome = omega (arith, w.outcome) in
    let n : packed f / 256 % 256 ≡ f.number = rw high (omega (arith, w.number)) in
    let p : packed f / 65536 % 65536 ≡ f.place = rw higher (omega (arith, w.place)) in
    let l : packed f / 4294967296 ≡ f.length = omega (arith, w.outcome, w.number, w.place) in
    rw (o, n, p, l) refl

-- an answer that is known, taken apart
pub answered : {r : ℕ} {f : Fields} (g : Fields) → Fit g → r ≡ packed f → f ≡ g → apart r ≡ g
answered g w q e = ap apart (q ∙ ap packed e) ∙ apart-packed g w

-- ---- what is carried out

module _ (d : Answer) (o : List ℕ) where
  -- a refusal, and nothing is written
  pub refused_carried : (d.outcome ≡ 0 → ⊥) → {r : ℕ} → r ≡ packed (refusal d.outcome 0) → CarriedOut d o r o
  unfolding carried_out carried_bytes
  refused_carried n q = record { answer = q ∙ rw not_zero; bytes = rw not_zero }
    where
      not_zero : eqb d.outcome 0 ≡ false
      not_zero = ne_eqb _ _ n

module _ (p : Policy) (n : ℕ) (o : List ℕ) {w : Result ℕ Refusal} {a : List ℕ} (out : Output p o w a) where
  -- the policy after, written
  pub written_carried : {r : ℕ} → r ≡ packed (of_written n w) → CarriedOut (accepted p n) o r a
  unfolding carried_out carried_bytes
  written_carried q = record { answer = q ∙ rw out.answer; bytes = out.bytes }

  pub written_fits : Good p → n < 256 → Fit (of_written n w)
  unfolding written_outcome written_length
  written_fits g below = by w (length_most p o out g)
    where
      by : (v : Result ℕ Refusal) → written_length v ≤ 10375 → Fit (of_written n v)
      by (Ok m) l = fits (omega arith) below (omega arith) (omega (arith, l))
      by (Err r) l = fits (omega (arith, number_between r)) (omega arith) (omega arith) (omega arith)
