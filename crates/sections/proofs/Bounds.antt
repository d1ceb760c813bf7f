-- Where a section ends, and what its refusals are: within the input, with numbers 20 to 27.
-- Assumes nothing.
use Prim.Native.Nat.{ℕ, zero, suc, ◌+◌, ◌<◌, ◌≤◌}
use mathlib.Core.Path.{◌≡◌, refl}
use mathlib.Core.Logic.{⊎_elim}
use mathlib.Core.Bool.{Bool, true, false}
use mathlib.Core.List.{List}
use native.Mathlib.Omega.{arith}
use lib.Dec.{leb}
use lib.ListN.{length, replicate, set}
use Rattle.sets.specs.Tests.{pick}
use Rattle.sets.specs.Sets.{has, subset}
use Rattle.policy.specs.declared.Members.{Members}
use Rattle.policy.specs.declared.People.{People}
use Rattle.number.specs.Number.{num_at, tested}
use Rattle.number.specs.Run.{Step, go, stop, on_num, on_step, run}
use Rattle.number.specs.Number.{Num}
use Rattle.number.specs.Number.{Value, Refused}
use Rattle.number.proofs.Numbers.{num_refused}
use Rattle.number.proofs.Tested.{tested-refused, tested_next, tested_place}
use Rattle.sections.specs.Numbers.{set_at, count_at, member_at}
use Rattle.sections.specs.Sections.{junior_step, juniors_at, order_at, people, user_step, people_at, members, member_step, members_at}

-- ---- numbers and steps that keep within an input of len bytes

-- a refusal's number is 20 to 27, and its place within the input
pub record RefusedWithin (len c p : ℕ) : Type 0 where
  pub low : 20 ≤ c
  pub high : c ≤ 27
  pub place : p ≤ len

pub record NumWithin (len at : ℕ) (n : Num) : Type 0 where
  pub ends : (x e : ℕ) → n ≡ Value x e → (at < e) × (e ≤ len)
  pub refuses : (c p : ℕ) → n ≡ Refused c p → RefusedWithin len c p

pub record Within {A : Type 0} (len at : ℕ) (m : Step A) : Type 0 where
  pub ends : (e : ℕ) (a : A) → m ≡ go e a → (at ≤ e) × (e ≤ len)
  pub refuses : (c p : ℕ) → m ≡ stop c p → RefusedWithin len c p

module _ {A : Type 0} {len : ℕ} where
  pub within_go : {at e : ℕ} {a : A} → at ≤ e → e ≤ len → Within len at (go e a)
  within_go {at} {e} {a} l h =
      record {
        ends = λ e' a' q. let z : e ≡ e' = cc in (omega arith, omega arith);
        refuses = λ c p q. absurd (let z : ◌≡◌ {A = ℕ} 0 1 = cc in omega arith);
      }

  pub within_stop : {at c p : ℕ} → RefusedWithin len c p → Within {A = A} len at (stop c p)
  within_stop {at} {c} {p} r =
      record {
        ends = λ e a q. absurd (let z : ◌≡◌ {A = ℕ} 0 1 = cc in omega arith);
        refuses = λ c' p' q. let y : c ≡ c' = cc in let z : p ≡ p' = cc in rw (← y, ← z) r;
      }

  -- the same from an earlier place
  pub within_from : {from at : ℕ} {m : Step A} → from ≤ at → Within len at m → Within len from m
  within_from l w = record { ends = λ e a q. (omega (arith, w.ends e a q), (w.ends e a q).1); refuses = w.refuses }

  -- what follows a number, and what follows a step
  pub within_num : {at : ℕ} (n : Num) (f : ℕ → ℕ → Step A) → NumWithin len at n
      → ((x next : ℕ) → n ≡ Value x next → at < next → next ≤ len → Within len next (f x next)) → Within len at (on_num n f)
  within_num (Value x next) f w k =
      let b = w.ends x next refl in
      within_from (omega arith) (k x next refl b.0 b.1)
  within_num (Refused c p) f w k = within_stop (w.refuses c p refl)

  pub within_step : {B : Type 0} {at : ℕ} (m : Step B) (f : ℕ → B → Step A) → Within len at m
      → ((next : ℕ) (b : B) → m ≡ go next b → at ≤ next → next ≤ len → Within len next (f next b)) → Within len at (on_step m f)
  within_step (go next b) f w k =
      let e = w.ends next b refl in
      within_from e.0 (k next b refl e.0 e.1)
  within_step (stop c p) f w k = within_stop (w.refuses c p refl)

-- a run of steps
module _ {A : Type 0} (f : ℕ → ℕ → A → Step A) (len : ℕ) (steps : (i at : ℕ) (a : A) → at ≤ len → Within len at (f i at a)) where
  pub within-run : (n i at : ℕ) (a : A) → at ≤ len → Within len at (run f n i at a)
  unfolding run
  within-run zero i at a h = within_go (omega arith) h
  within-run (suc n) i at a h = within_step _ _ (steps i at a h) (λ next b q l m. within-run n (i + 1) next b m)

-- ---- the numbers of the file

module _ (s : List ℕ) {at : ℕ} (h : at ≤ length s) where
  pub tested-within : (t : ℕ → Bool) → NumWithin (length s) at (tested t at (num_at s at))
  tested-within t =
      record {
        ends = λ x e q. tested_next t s at q;
        refuses = λ c p q.
            let place = tested_place t s at h q in
            ⊎_elim (λ r. ⊎_elim (λ k. record { low = omega arith; high = omega arith; place = place })
            (λ k. record { low = omega arith; high = omega arith; place = place }) (num_refused s at r))
            (λ r. record { low = omega arith; high = omega arith; place = place }) (tested-refused t at (num_at s at) q);
      }

  pub set-within : (of : ℕ) → NumWithin (length s) at (set_at s of at)
  unfolding set_at
  set-within of = tested-within (λ x. subset 64 x of)

  pub count-within : (most : ℕ) → NumWithin (length s) at (count_at s most at)
  unfolding count_at
  count-within most = tested-within (λ x. leb x most)

  pub member_within : (of : ℕ) → NumWithin (length s) at (member_at s of at)
  unfolding member_at
  member_within of = tested-within (has of)

-- ---- the sections

module _ (s : List ℕ) where
  junior_step_lem : (used i at : ℕ) (l : List ℕ) → at ≤ length s → Within (length s) at (junior_step s used i at l)
  unfolding junior_step
  junior_step_lem used i at l h = by (has used i)
    where
      by : (b : Bool) → Within (length s) at (pick b (on_num (set_at s used at) (λ x next. go next (set l i x))) (go at l))
      by true = within_num _ _ (set-within s h _) (λ x next q k m. within_go (omega arith) m)
      by false = within_go (omega arith) h

  pub order_within : (all : ℕ) {at : ℕ} → at ≤ length s → Within (length s) at (order_at s all at)
  unfolding order_at juniors_at
  order_within all h =
      within_num _ _ (set-within s h _) (λ used mid q k m.
      within_step _ _ (within-run (junior_step s used) (length s) (junior_step_lem used) 64 0 mid (replicate 64 0) m) (λ next js p l n. within_go (omega arith) n))

  user_step_lem : (roles admins i at : ℕ) (p : People) → at ≤ length s → Within (length s) at (user_step s roles admins i at p)
  unfolding user_step
  user_step_lem roles admins i at p h =
      within_num _ _ (set-within s h _) (λ x mid q k m. within_num _ _ (set-within s m _) (λ y next r l n. within_go (omega arith) n))

  pub people-within : (roles admins : ℕ) {at : ℕ} → at ≤ length s → Within (length s) at (people_at s roles admins at)
  unfolding people_at
  people-within roles admins h =
      within_num _ _ (count-within s h _) (λ n next q k m.
      within-run (user_step s roles admins) (length s) (user_step_lem roles admins) n 0 next (people n (replicate 256 0) (replicate 256 0)) m)

  member_step_lem : (roles i at : ℕ) (p : Members) → at ≤ length s → Within (length s) at (member_step s roles i at p)
  unfolding member_step
  member_step_lem roles i at p h = within_num _ _ (set-within s h _) (λ x next q k m. within_go (omega arith) m)

  pub members-within : (roles : ℕ) {at : ℕ} → at ≤ length s → Within (length s) at (members_at s roles at)
  unfolding members_at
  members-within roles h =
      within_num _ _ (count-within s h _) (λ n next q k m.
      within-run (member_step s roles) (length s) (member_step_lem roles) n 0 next (members n (replicate 256 0)) m)
