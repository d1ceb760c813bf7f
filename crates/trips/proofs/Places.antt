-- How far into the input a place can be: a number has ten bytes at most and a file 2,634 numbers at most, so a place fits 16 bits.
-- Assumes nothing.
use Prim.Native.Nat.{ℕ, zero, suc, ◌+◌, ◌*◌, ◌≤◌}
use mathlib.Core.Path.{◌≡◌, refl}
use mathlib.Core.Bool.{Bool, true, false}
use mathlib.Core.List.{List}
use native.Mathlib.Nat.{suc-mul}
use native.Mathlib.Omega.{arith}
use borrow.Author.Tests.{leb-true}
use lib.Dec.{leb, ltb, eqb}
use lib.ListN.{length, replicate, set}
use Rattle.sets.specs.Tests.{◌or◌, pick}
use Rattle.sets.specs.Sets.{has, subset}
use Rattle.sets.proofs.Quantifiers.{least_le}
use Rattle.ranges.specs.declared.ModifyRow.{ModifyRow}
use Rattle.ranges.specs.Rows.{no_row}
use Rattle.policy.specs.declared.Members.{Members}
use Rattle.policy.specs.declared.People.{People}
use Rattle.policy.specs.declared.Table.{Table}
use Rattle.policy.specs.declared.Ranges.{Ranges}
use Rattle.policy.specs.Build.{empty_row}
use Rattle.number.specs.Number.{byte, ends, last_of, value_of, is_long, is_over, ends_with, num_at, tested}
use Rattle.number.specs.Run.{Step, go, stop, on_num, on_step, run}
use Rattle.number.specs.Number.{Num}
use Rattle.number.specs.Number.{Value, Refused}
use Rattle.number.proofs.Tested.{tested_was}
use Rattle.sections.specs.Numbers.{set_at, count_at, member_at}
use Rattle.sections.specs.Sections.{all_below, junior_step, juniors_at, order_at, people, user_step, people_at, members, member_step, members_at}
use Rattle.rows.specs.Rows.{row, range_at, condition_at, table_row_at, table, row_step, table_at, ranges, range_step, ranges_at}
use Rattle.faults.specs.Faults.{fault}
use Rattle.reading.specs.File.{Front}
use Rattle.reading.specs.File as how
use Rattle.reading.specs.File.{one_at, front_at, Rest, rest_at, file, judge, file_at, read_policy}
use Rattle.reading.proofs.Theorems.{of_refused, file_end}
use Rattle.parts.specs.Parts.{Found}
use Rattle.parts.specs.Parts.{part_at}
use Rattle.parts.proofs.Laws.{part_found, found_inside}

-- ---- readings that end, or are refused, at a place u at most

pub record NumUntil (u : ℕ) (n : Num) : Type 0 where
  pub ends : (x e : ℕ) → n ≡ Value x e → e ≤ u
  pub refuses : (c p : ℕ) → n ≡ Refused c p → p ≤ u

pub record Until {A : Type 0} (u : ℕ) (m : Step A) : Type 0 where
  pub ends : (e : ℕ) (a : A) → m ≡ go e a → e ≤ u
  pub refuses : (c p : ℕ) → m ≡ stop c p → p ≤ u

num_value : {u x e : ℕ} → e ≤ u → NumUntil u (Value x e)
num_value {u} {x} {e} h =
    record {
      ends = λ y k q. let z : e ≡ k = cc in omega arith;
      refuses = λ c p q. absurd (let z : ◌≡◌ {A = ℕ} 0 1 = cc in omega arith);
    }

num_refusal : {u c p : ℕ} → p ≤ u → NumUntil u (Refused c p)
num_refusal {u} {c} {p} h =
    record {
      ends = λ x e q. absurd (let z : ◌≡◌ {A = ℕ} 0 1 = cc in omega arith);
      refuses = λ d k q. let z : p ≡ k = cc in omega arith;
    }

module _ {A : Type 0} {u : ℕ} where
  until_go : {e : ℕ} {a : A} → e ≤ u → Until u (go e a)
  until_go {e} h =
      record {
        ends = λ k b q. let z : e ≡ k = cc in omega arith;
        refuses = λ c p q. absurd (let z : ◌≡◌ {A = ℕ} 0 1 = cc in omega arith);
      }

  until_stop : {c p : ℕ} → p ≤ u → Until {A = A} u (stop c p)
  until_stop {c} {p} h =
      record {
        ends = λ e a q. absurd (let z : ◌≡◌ {A = ℕ} 0 1 = cc in omega arith);
        refuses = λ d k q. let z : p ≡ k = cc in omega arith;
      }

  until_more : {v : ℕ} {m : Step A} → v ≤ u → Until v m → Until u m
  until_more h w = record { ends = λ e a q. omega (arith, w.ends e a q); refuses = λ c p q. omega (arith, w.refuses c p q) }

  -- what follows a number, and what follows a step
  until_num : {v : ℕ} (n : Num) (f : ℕ → ℕ → Step A) → v ≤ u → NumUntil v n
      → ((x next : ℕ) → n ≡ Value x next → next ≤ v → Until u (f x next)) → Until u (on_num n f)
  until_num (Value x next) f h w k = k x next refl (w.ends x next refl)
  until_num (Refused c p) f h w k = until_stop (omega (arith, w.refuses c p refl))

  until_step : {B : Type 0} {v : ℕ} (m : Step B) (f : ℕ → B → Step A) → v ≤ u → Until v m
      → ((next : ℕ) (b : B) → next ≤ v → Until u (f next b)) → Until u (on_step m f)
  until_step (go next b) f h w k = k next b (w.ends next b refl)
  until_step (stop c p) f h w k = until_stop (omega (arith, w.refuses c p refl))

-- n steps of k bytes each
module _ {A : Type 0} (f : ℕ → ℕ → A → Step A) (k : ℕ) (steps : (i at u : ℕ) (a : A) → at ≤ u → Until (u + k) (f i at a)) where
  until_run : (n i at u : ℕ) (a : A) → at ≤ u → Until (u + n * k) (run f n i at a)
  unfolding run
  until_run zero i at u a h = until_go (omega arith)
  until_run (suc n) i at u a h =
      until_step _ _ (omega (arith, suc-mul n k)) (steps i at u a h) (λ next b l.
      until_more (omega (arith, suc-mul n k)) (until_run n (i + 1) next (u + k) b l))

-- ---- a number: ten bytes at most

module _ (s : List ℕ) {at u : ℕ} (h : at ≤ u) where
  last_most : last_of s at ≤ 9
  unfolding last_of
  last_most = least_le 9 (ends s at)

  num_until : NumUntil (u + 10) (num_at s at)
  unfolding num_at ends_with
  num_until = by (leb (length s) (at + n)) (is_long n (byte s at n) or is_over n (byte s at n)) refl
    where
      n : ℕ
      n = last_of s at

      by : (b c : Bool) → leb (length s) (at + n) ≡ b
          → NumUntil (u + 10) (pick b (Refused 20 (length s)) (pick c (Refused 21 at) (Value (value_of s at (suc n)) (at + n + 1))))
      by true c q = num_refusal (omega (arith, leb-true (length s) (at + n) q, last_most))
      by false true q = num_refusal (omega arith)
      by false false q = num_value (omega (arith, last_most))

  tested_until : (t : ℕ → Bool) → NumUntil (u + 10) (tested t at (num_at s at))
  tested_until t = by (num_at s at) num_until
    where
      turned : (b : Bool) (x e : ℕ) → e ≤ u + 10 → NumUntil (u + 10) (pick b (Value x e) (Refused 22 at))
      turned true x e l = num_value l
      turned false x e l = num_refusal (omega arith)

      by : (n : Num) → NumUntil (u + 10) n → NumUntil (u + 10) (tested t at n)
      by (Value x e) w = turned (t x) x e (w.ends x e refl)
      by (Refused c p) w = w

  set_until : (of : ℕ) → NumUntil (u + 10) (set_at s of at)
  unfolding set_at
  set_until of = tested_until (λ x. subset 64 x of)

  count_until : (most : ℕ) → NumUntil (u + 10) (count_at s most at)
  unfolding count_at
  count_until most = tested_until (λ x. leb x most)

  member_until : (of : ℕ) → NumUntil (u + 10) (member_at s of at)
  unfolding member_at
  member_until of = tested_until (has of)

count_most : (s : List ℕ) (most at : ℕ) {x e : ℕ} → count_at s most at ≡ Value x e → x ≤ most
unfolding count_at
count_most s most at {x} q = leb-true x most (tested_was (λ n. leb n most) at (num_at s at) q).1

-- ---- the sections

module _ (s : List ℕ) where
  junior_step_lem : (used i at u : ℕ) (l : List ℕ) → at ≤ u → Until (u + 10) (junior_step s used i at l)
  unfolding junior_step
  junior_step_lem used i at u l h = by (has used i)
    where
      by : (b : Bool) → Until (u + 10) (pick b (on_num (set_at s used at) (λ x next. go next (set l i x))) (go at l))
      by true = until_num _ _ (omega arith) (set_until s h _) (λ x next q k. until_go k)
      by false = until_go (omega arith)

  -- 65 numbers
  order_until : (all : ℕ) {at u : ℕ} → at ≤ u → Until (u + 650) (order_at s all at)
  unfolding order_at juniors_at
  order_until all {at} {u} h =
      until_num _ _ (omega arith) (set_until s h _) (λ used mid q k.
      until_step _ _ (omega arith) (until_run (junior_step s used) 10 (junior_step_lem used) 64 0 mid (u + 10) (replicate 64 0) k) (λ next js l.
      until_go (omega arith)))

  user_step_lem : (roles admins i at u : ℕ) (p : People) → at ≤ u → Until (u + 20) (user_step s roles admins i at p)
  unfolding user_step
  user_step_lem roles admins i at u p h =
      until_num _ _ (omega arith) (set_until s h _) (λ x mid q k.
      until_num _ _ (omega arith) (set_until s k _) (λ y next r l. until_go (omega arith)))

  -- 513 numbers
  people_until : (roles admins : ℕ) {at u : ℕ} → at ≤ u → Until (u + 5130) (people_at s roles admins at)
  unfolding people_at
  people_until roles admins {at} {u} h =
      until_num _ _ (omega arith) (count_until s h _) (λ n next q k.
      until_more (omega (arith, count_most s 256 at q))
      (until_run (user_step s roles admins) 20 (user_step_lem roles admins) n 0 next (u + 10) (people n (replicate 256 0) (replicate 256 0)) k))

  member_step_lem : (roles i at u : ℕ) (m : Members) → at ≤ u → Until (u + 10) (member_step s roles i at m)
  unfolding member_step
  member_step_lem roles i at u m h = until_num _ _ (omega arith) (set_until s h _) (λ x next q k. until_go k)

  -- 257 numbers
  members_until : (roles : ℕ) {at u : ℕ} → at ≤ u → Until (u + 2570) (members_at s roles at)
  unfolding members_at
  members_until roles {at} {u} h =
      until_num _ _ (omega arith) (count_until s h _) (λ n next q k.
      until_more (omega (arith, count_most s 256 at q))
      (until_run (member_step s roles) 10 (member_step_lem roles) n 0 next (u + 10) (members n (replicate 256 0)) k))

  -- ---- the tables

  module _ (roles admins : ℕ) where
    range_until : {at u : ℕ} → at ≤ u → Until (u + 30) (range_at s roles admins at)
    unfolding range_at
    range_until h =
        until_num _ _ (omega arith) (member_until s h _) (λ admin b q k.
        until_num _ _ (omega arith) (member_until s k _) (λ low c r l.
        until_num _ _ (omega arith) (member_until s l _) (λ high next t m. until_go (omega arith))))

    range_step_lem : (i at u : ℕ) (m : Ranges) → at ≤ u → Until (u + 30) (range_step s roles admins i at m)
    unfolding range_step
    range_step_lem i at u m h = until_step _ _ (omega arith) (range_until h) (λ next r k. until_go k)

    -- 193 numbers
    ranges_until : {at u : ℕ} → at ≤ u → Until (u + 1930) (ranges_at s roles admins at)
    unfolding ranges_at
    ranges_until {at} {u} h =
        until_num _ _ (omega arith) (count_until s h _) (λ n next q k.
        until_more (omega (arith, count_most s 64 at q))
        (until_run (range_step s roles admins) 30 range_step_lem n 0 next (u + 10) (ranges n (replicate 64 no_row)) k))

    module _ (assign : Bool) where
      row_until : {at u : ℕ} → at ≤ u → Until (u + 60) (table_row_at s assign roles admins at)
      unfolding table_row_at condition_at
      row_until {at} {u} h =
          until_step _ _ (omega arith) (range_until h) (λ fourth r k.
          until_num _ _ (omega arith) (count_until s k _) (λ brackets next q l. by assign r brackets l))
        where
          by : (b : Bool) (r : ModifyRow) (brackets : ℕ) {next : ℕ} → next ≤ u + 30 + 10
              → Until (u + 60) (pick b (condition_at s roles r brackets next) (go next (row r brackets 0 0)))
          by true r brackets l =
              until_num _ _ (omega arith) (set_until s l _) (λ needed mid q k.
              until_num _ _ (omega arith) (set_until s k _) (λ barred next t m. until_go (omega arith)))
          by false r brackets l = until_go (omega arith)

      row_step_lem : (i at u : ℕ) (t : Table) → at ≤ u → Until (u + 60) (row_step s assign roles admins i at t)
      unfolding row_step
      row_step_lem i at u t h = until_step _ _ (omega arith) (row_until h) (λ next r k. until_go k)

      -- 385 numbers
      table_until : {at u : ℕ} → at ≤ u → Until (u + 3850) (table_at s assign roles admins at)
      unfolding table_at
      table_until {at} {u} h =
          until_num _ _ (omega arith) (count_until s h _) (λ n next q k.
          until_more (omega (arith, count_most s 64 at q))
          (until_run (row_step s assign roles admins) 60 row_step_lem n 0 next (u + 10) (table n (replicate 64 empty_row)) k))

  -- ---- the file

  front_until : Until 9010 (front_at s 0)
  unfolding front_at one_at
  front_until =
      until_num _ _ (omega arith) (tested_until s {u = 0} (omega arith) (λ x. eqb x 1)) (λ one a q k.
      until_step _ _ (omega arith) (order_until (all_below 64) k) (λ b roles l.
      until_step _ _ (omega arith) (order_until (all_below 16) l) (λ c admins m.
      until_step _ _ (omega arith) (people_until roles.used admins.used m) (λ d people n.
      until_step _ _ (omega arith) (members_until roles.used n) (λ e permissions o. until_go (omega arith))))))

  rest_until : (roles admins : ℕ) {a u : ℕ} → a ≤ u → Until (u + 17330) (rest_at s roles admins a)
  unfolding rest_at
  rest_until roles admins h =
      until_step _ _ (omega arith) (table_until roles admins true h) (λ b assign k.
      until_step _ _ (omega arith) (table_until roles admins false k) (λ c revoke l.
      until_step _ _ (omega arith) (table_until roles admins true l) (λ d assignp m.
      until_step _ _ (omega arith) (table_until roles admins false m) (λ e revokep n.
      until_step _ _ (omega arith) (ranges_until roles admins n) (λ end modify o. until_go (omega arith))))))

  judge_until : {end u : ℕ} (f : Front) (r : Rest) → end ≤ u → Until u (judge s end f r)
  unfolding judge
  judge_until {end} {u} f r h = by (ltb end (length s)) (eqb n 0)
    where
      n : ℕ
      n = fault f.orders r.modify

      by : (t w : Bool) → Until u (pick t (stop 27 end) (pick w (go end (file f r)) (stop n 0)))
      by true w = until_stop h
      by false true = until_go h
      by false false = until_stop (omega arith)

  file_until : Until 26340 (file_at s)
  unfolding file_at
  file_until =
      until_step _ _ (omega arith) front_until (λ at f k.
      until_step _ _ (omega arith) (rest_until f.orders.roles.used f.orders.admins.used k) (λ end r l. judge_until f r l))

  -- the place of a file's refusal
  pub refused_near : {c p : ℕ} → (read_policy s).how ≡ how.Refused c p → p ≤ 26340
  unfolding read_policy
  refused_near {c} {p} q = file_until.refuses c p (of_refused (file_at s) q)

  -- where the part of a table ends
  pub part_near : (k : ℕ) {a n : ℕ} → part_at s k ≡ Found a n → a + n ≤ 26340
  part_near k {a} {n} q =
      let w = part_found s k q in
      omega (arith, (found_inside s k q).1, file_end s w.3, file_until.ends w.1 w.2 w.3)
