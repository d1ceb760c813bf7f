-- What a section is that was read: sets inside what is in use, counts within their sizes, nothing past them.
-- Assumes nothing.
use Prim.Native.Nat.{ℕ, ◌+◌, ◌^◌, ◌<◌, ◌≤◌}
use mathlib.Core.Path.{◌≡◌, refl, sym, ◌∙◌}
use mathlib.Core.Bool.{Bool, true, false}
use mathlib.Core.List.{List}
use native.Mathlib.Nat.{pow-le-pow_right}
use native.Mathlib.Omega.{arith}
use borrow.Author.Tests.{ltb-true, ltb-false}
use lib.Dec.{ltb}
use lib.ListN.{length, get_or, set, replicate}
use Rattle.sets.specs.Tests.{pick}
use Rattle.sets.specs.Sets.{has, subset, set_of}
use Rattle.sets.proofs.Tests.{by_test, clash, not_so}
use Rattle.sets.proofs.Digits.{has_empty, has_beyond, same_set}
use Rattle.sets.proofs.Builders.{set_of_lt, has-set_of, in_set_of, subset_at, subset_empty}
use Rattle.order.specs.declared.Order.{Order}
use Rattle.order.specs.Order.{senior, InUse}
use Rattle.policy.specs.declared.Members.{Members}
use Rattle.policy.specs.declared.People.{People}
use Rattle.policy.specs.Good.{GoodSets}
use Rattle.number.specs.Number.{num_at}
use Rattle.number.specs.Run.{go, on_num}
use Rattle.number.specs.Number.{Value}
use Rattle.number.proofs.Numbers.{num_small}
use Rattle.number.proofs.Tested.{tested_was}
use Rattle.number.proofs.Runs.{on_num_lem, on_step_lem}
use Rattle.sections.specs.Numbers.{set_at, count_at}
use Rattle.sections.specs.Sections.{all_below, junior_step, juniors_at, order_at, people, user_step, people_at, members, member_step, members_at}
use Rattle.sections.proofs.Laws.{count_most}
use Rattle.sections.proofs.Filled.{run-all, Filled, filled_none, filled-set, filled_skip}

-- ---- a set inside another
pub record SetIn (of x : ℕ) : Type 0 where
  pub inner : subset 64 x of ≡ true
  pub small : x < 2 ^ 64

pub set_in : (s : List ℕ) (of at : ℕ) {x e : ℕ} → set_at s of at ≡ Value x e → SetIn of x
unfolding set_at
set_in s of at q =
    let w = tested_was (λ x. subset 64 x of) at (num_at s at) q in
    record { inner = w.1; small = num_small s at w.0 }

-- a list of them, and those past a count empty
pub filled_sets : {used count : ℕ} {sets : List ℕ} → Filled 0 (λ j x. SetIn used x) 256 count sets → GoodSets used count sets
filled_sets {used} {count} {sets} k =
    record {
      inner = λ i h. (k.done i h).inner;
      small = λ i. by_test (ltb i count) (λ t. (k.done i (ltb-true i count t)).small) (λ t. omega (arith, k.rest i (ltb-false i count t)));
      rest = k.rest;
      long = k.long;
    }

-- ---- permissions
pub record MembersRight (roles : ℕ) (m : Members) : Type 0 where
  pub size : m.count ≤ 256
  pub sets : GoodSets roles m.count m.roles

module _ (s : List ℕ) (roles : ℕ) where
  record Memberships (n i : ℕ) (m : Members) : Type 0 where
    count_is : m.count ≡ n
    roles_are : Filled 0 (λ j x. SetIn roles x) 256 i m.roles

  member_keeps : (n : ℕ) → n ≤ 256 → (i at : ℕ) (m : Members) (next : ℕ) (b : Members) → i < n → Memberships n i m
      → member_step s roles i at m ≡ go next b → Memberships n (i + 1) b
  unfolding member_step
  member_keeps n most i at m next b h k q =
      let a = on_num_lem (set_at s roles at) _ q in
      let z : members m.count (set m.roles i a.0) ≡ b = cc a.3 in
      rw (← z) (record { count_is = k.count_is; roles_are = filled-set k.roles_are (omega arith) (set_in s roles at a.2) })

  pub members_right : (at : ℕ) {e : ℕ} {m : Members} → members_at s roles at ≡ go e m → MembersRight roles m
  unfolding members_at
  members_right at {e} {m} q =
      let c = on_num_lem (count_at s 256 at) _ q in
      let most = count_most s 256 at c.2 in
      let k =
      run-all (member_step s roles) (Memberships c.0) c.0 (member_keeps c.0 most) c.1 (members c.0 (replicate 256 0)) e m
      (record { count_is = refl; roles_are = filled_none }) c.3
      in
      record { size = omega (arith, k.count_is); sets = rw k.count_is (filled_sets k.roles_are) }

-- ---- users
pub record PeopleRight (roles admins : ℕ) (p : People) : Type 0 where
  pub size : p.users.count ≤ 256
  pub sets : GoodSets roles p.users.count p.users.roles
  pub offices : GoodSets admins p.users.count p.offices

module _ (s : List ℕ) (roles admins : ℕ) where
  record Peopled (n i : ℕ) (p : People) : Type 0 where
    count_is : p.users.count ≡ n
    roles_are : Filled 0 (λ j x. SetIn roles x) 256 i p.users.roles
    offices_are : Filled 0 (λ j x. SetIn admins x) 256 i p.offices

  user_keeps : (n : ℕ) → n ≤ 256 → (i at : ℕ) (p : People) (next : ℕ) (b : People) → i < n → Peopled n i p
      → user_step s roles admins i at p ≡ go next b → Peopled n (i + 1) b
  unfolding user_step
  user_keeps n most i at p next b h k q =
      let x = on_num_lem (set_at s roles at) _ q in
      let y = on_num_lem (set_at s admins x.1) _ x.3 in
      let z : people p.users.count (set p.users.roles i x.0) (set p.offices i y.0) ≡ b = cc y.3 in
      rw (← z)
      (record {
        count_is = k.count_is;
        roles_are = filled-set k.roles_are (omega arith) (set_in s roles at x.2);
        offices_are = filled-set k.offices_are (omega arith) (set_in s admins x.1 y.2);
      })

  pub people_right : (at : ℕ) {e : ℕ} {p : People} → people_at s roles admins at ≡ go e p → PeopleRight roles admins p
  unfolding people_at
  people_right at {e} {p} q =
      let c = on_num_lem (count_at s 256 at) _ q in
      let most = count_most s 256 at c.2 in
      let k =
      run-all (user_step s roles admins) (Peopled c.0) c.0 (user_keeps c.0 most) c.1
      (people c.0 (replicate 256 0) (replicate 256 0)) e p
      (record { count_is = refl; roles_are = filled_none; offices_are = filled_none }) c.3
      in
      record {
        size = omega (arith, k.count_is);
        sets = rw k.count_is (filled_sets k.roles_are);
        offices = rw k.count_is (filled_sets k.offices_are);
      }

-- ---- an order: all of it but that it is strict
pub record OrderRight (w : ℕ) (o : Order) : Type 0 where
  pub in_use : InUse o.used (senior o.juniors)
  pub width : o.used < 2 ^ w
  pub rows : length o.juniors ≡ 64
  pub small : (a : ℕ) → get_or o.juniors a 0 < 2 ^ 64

-- a set of numbers below w is below 2 to the w
below_width : (w x : ℕ) → w ≤ 64 → SetIn (all_below w) x → x < 2 ^ w
unfolding all_below
below_width w x h k =
    let e : x ≡ set_of w (has x) =
    same_set 64 x (set_of w (has x)) k.small (omega (arith, set_of_lt w (has x), pow-le-pow_right {n = 2} (omega arith) {i = w} {j = 64} h))
    (λ n l. by_test (ltb n w) (λ t. sym (has-set_of w (has x) n (ltb-true n w t)))
    (λ t. not_so (has x n) (λ u. omega (arith, in_set_of w (λ m. true) n (subset_at 64 x (set_of w (λ m. true)) k.small k.inner n u), ltb-false n w t))
    ∙ sym (has_beyond w (set_of w (has x)) n (set_of_lt w (has x)) (ltb-false n w t))))
    in
    rw e (set_of_lt w (has x))

-- the juniors of a number: inside what is in use, and none where it is not in use itself
record Juniors (used a x : ℕ) : Type 0 where
  set : SetIn used x
  unused : has used a ≡ false → x ≡ 0

module _ (s : List ℕ) (used : ℕ) where
  no_juniors : (a : ℕ) → Juniors used a 0
  no_juniors a = record { set = record { inner = subset_empty 64 used; small = omega arith }; unused = λ e. refl }

  junior_keeps : (i at : ℕ) (l : List ℕ) (next : ℕ) (b : List ℕ) → i < 64 → Filled 0 (Juniors used) 64 i l → junior_step s used i at l ≡ go next b
      → Filled 0 (Juniors used) 64 (i + 1) b
  unfolding junior_step
  junior_keeps i at l next b h k q = by (has used i) refl q
    where
      by : (t : Bool) → has used i ≡ t → pick t (on_num (set_at s used at) (λ x e. go e (set l i x))) (go at l) ≡ go next b → Filled 0 (Juniors used) 64 (i + 1) b
      by true e q =
          let a = on_num_lem (set_at s used at) _ q in
          let z : set l i a.0 ≡ b = cc a.3 in
          rw (← z) (filled-set k h (record { set = set_in s used at a.2; unused = λ u. clash e u }))
      by false e q = let z : l ≡ b = cc in rw (← z) (filled_skip k (no_juniors i))

  juniors_are : (at : ℕ) {e : ℕ} {l : List ℕ} → juniors_at s used at ≡ go e l → Filled 0 (Juniors used) 64 64 l
  unfolding juniors_at
  juniors_are at {e} {l} q =
      run-all (junior_step s used) (λ i a. Filled 0 (Juniors used) 64 i a) 64 junior_keeps at (replicate 64 0) e l filled_none q

-- of any number
junior_set : {used : ℕ} {l : List ℕ} → Filled 0 (Juniors used) 64 64 l → (a : ℕ) → Juniors used a (get_or l a 0)
junior_set {used} {l} k a =
    by_test (ltb a 64) (λ t. k.done a (ltb-true a 64 t))
    (λ t. rw (k.rest a (ltb-false a 64 t)) (record { set = record { inner = subset_empty 64 used; small = omega arith }; unused = λ e. refl }))

pub order_right : (s : List ℕ) (w at : ℕ) {e : ℕ} {o : Order} → w ≤ 64 → order_at s (all_below w) at ≡ go e o → OrderRight w o
unfolding order_at senior
order_right s w at {e} {o} h q =
    let u = on_num_lem (set_at s (all_below w) at) _ q in
    let j = on_step_lem (juniors_at s u.0 u.1) _ u.3 in
    let k = juniors_are s u.0 u.1 j.2 in
    let z : ◌≡◌ {A = Order} (record { used = u.0; juniors = j.1 }) o = cc j.3 in
    rw (← z)
    (record {
      in_use = record {
        above = λ a b t. by_test (has u.0 a) (λ y. y) (λ n. clash (rw ((junior_set k a).unused n) at t) (has_empty b));
        below = λ a b t. subset_at 64 _ u.0 (junior_set k a).set.small (junior_set k a).set.inner b t;
      };
      width = below_width w u.0 h (set_in s (all_below w) at u.2);
      rows = k.long;
      small = λ a. (junior_set k a).set.small;
    })
