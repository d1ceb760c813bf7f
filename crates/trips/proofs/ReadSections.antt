-- The first round trip, section by section: a section's bytes, wherever they stand, are read as that section, with the place past them.
-- Assumes nothing.
use Prim.Native.Nat.{ℕ, ◌+◌, ◌^◌, ◌<◌, ◌≤◌}
use mathlib.Core.Path.{◌≡◌, ◌∙◌}
use mathlib.Core.Bool.{true}
use mathlib.Core.List.{List, ◌++◌}
use native.Mathlib.Nat.{lt_of_lt_of_le}
use native.Mathlib.Omega.{arith}
use borrow.Author.Tests.{le-leb}
use lib.Dec.{leb}
use lib.ListN.{length, get_or, length-append, get_or-eq_default}
use lib.Pow.{pow_mono}
use Rattle.sets.specs.Sets.{has, set_of, subset}
use Rattle.sets.proofs.Tests.{by_test}
use Rattle.sets.proofs.Digits.{has_below, none_is_empty}
use Rattle.sets.proofs.Builders.{has-set_of, subset_of}
use Rattle.order.specs.declared.Order.{Order}
use Rattle.order.specs.Order.{senior}
use Rattle.order.proofs.Relations.{unused_free}
use Rattle.policy.specs.declared.Members.{Members}
use Rattle.policy.specs.declared.People.{People}
use Rattle.policy.specs.Good.{GoodOrder, GoodSets}
use Rattle.number.specs.Number.{num_bytes}
use Rattle.number.specs.Run.{go, each}
use Rattle.number.specs.Number.{Value}
use Rattle.number.proofs.Parts.{Stands, stands_first, stands_second}
use Rattle.number.proofs.Tested.{tested_written}
use Rattle.sections.specs.Numbers.{set_at, count_at, member_at}
use Rattle.sections.specs.Sections.{all_below, junior_step, juniors_at, order_at, people, user_step, people_at, members, member_step, members_at}
use Rattle.sections.proofs.Laws.{junior_in, junior_skip}
use Rattle.layout.specs.Layout.{juniors_bytes, order_bytes, user_bytes, users_bytes, permissions_bytes}
use Rattle.layout.proofs.Lengths.{juniors_in, juniors_out}
use Rattle.trips.proofs.Fill.{filled_to, up_none, up_set, up_skip, up_all, run_states, counted_read}

-- ---- a number that has to pass a test
module _ (s : List ℕ) {at : ℕ} (x : ℕ) (h : x < 2 ^ 64) (w : Stands s at (num_bytes x)) where
  pub set_read : (of : ℕ) → subset 64 x of ≡ true → set_at s of at ≡ Value x (at + length (num_bytes x))
  unfolding set_at
  set_read of t = tested_written (λ y. subset 64 y of) s at x h t w

  pub count_read : (most : ℕ) → x ≤ most → count_at s most at ≡ Value x (at + length (num_bytes x))
  unfolding count_at
  count_read most l = tested_written (λ y. leb y most) s at x h (le-leb x most l) w

  pub member_read : (of : ℕ) → has of x ≡ true → member_at s of at ≡ Value x (at + length (num_bytes x))
  unfolding member_at
  member_read of t = tested_written (has of) s at x h t w

-- ---- permissions
module _ (s : List ℕ) (roles : ℕ) (m : Members) (size : m.count ≤ 256) (g : GoodSets roles m.count m.roles) where
  permission_state : ℕ → Members
  permission_state i = members m.count (filled_to 0 m.roles i)

  permission_reads : (i at : ℕ) → i < m.count → Stands s at (num_bytes (get_or m.roles i 0))
      → member_step s roles i at (permission_state i) ≡ go (at + length (num_bytes (get_or m.roles i 0))) (permission_state (i + 1))
  unfolding member_step permission_state
  permission_reads i at h w =
      rw (set_read s (get_or m.roles i 0) (g.small i) w roles (g.inner i h), up_set 0 m.roles i (omega (arith, g.long)))

  pub permissions_read : (at : ℕ) → Stands s at (permissions_bytes m) → members_at s roles at ≡ go (at + length (permissions_bytes m)) m
  unfolding members_at permissions_bytes permission_state
  permissions_read at w =
      let e = up_all 0 m.roles m.count (omega (arith, g.long)) g.rest in
      let b = up_none 0 m.roles in
      let long = g.long in
      counted_read (member_step s roles) (λ i. num_bytes (get_or m.roles i 0)) permission_state s m.count permission_reads 256 (λ n. members n _) at
      size (omega arith) (rw (b, long)) w ∙ rw e

-- ---- users
module _ (s : List ℕ) (roles admins : ℕ) (p : People) (size : p.users.count ≤ 256)
    (g : GoodSets roles p.users.count p.users.roles) (o : GoodSets admins p.users.count p.offices) where
  user_state : ℕ → People
  user_state i = people p.users.count (filled_to 0 p.users.roles i) (filled_to 0 p.offices i)

  user_bytes_lem : ℕ → List ℕ
  user_bytes_lem i = user_bytes (get_or p.users.roles i 0) (get_or p.offices i 0)

  user_reads : (i at : ℕ) → i < p.users.count → Stands s at (user_bytes_lem i)
      → user_step s roles admins i at (user_state i) ≡ go (at + length (user_bytes_lem i)) (user_state (i + 1))
  unfolding user_step user_state user_bytes_lem user_bytes
  user_reads i at h w =
      let x = get_or p.users.roles i 0 in
      let y = get_or p.offices i 0 in
      let first = set_read s x (g.small i) (stands_first (num_bytes x) (num_bytes y) w) roles (g.inner i h) in
      let second = set_read s y (o.small i) (stands_second (num_bytes x) (num_bytes y) w) admins (o.inner i h) in
      let e : at + length (num_bytes x) + length (num_bytes y) ≡ at + length (num_bytes x ++ num_bytes y) =
      omega (arith, length-append (num_bytes x) (num_bytes y)) in
      rw (first, second, e, up_set 0 p.users.roles i (omega (arith, g.long)), up_set 0 p.offices i (omega (arith, o.long)))

  pub users_read : (at : ℕ) → Stands s at (users_bytes p) → people_at s roles admins at ≡ go (at + length (users_bytes p)) p
  unfolding people_at users_bytes user_state user_bytes_lem
  users_read at w =
      let e = up_all 0 p.users.roles p.users.count (omega (arith, g.long)) g.rest in
      let d = up_all 0 p.offices p.users.count (omega (arith, o.long)) o.rest in
      let b = up_none 0 p.users.roles in
      let c = up_none 0 p.offices in
      let long = g.long in
      let wide = o.long in
      counted_read (user_step s roles admins) user_bytes_lem user_state s p.users.count user_reads 256 (λ n. people n _ _) at
      size (omega arith) (rw (b, c, long, wide)) w ∙ rw (e, d)

-- ---- an order of the w numbers there are
module _ (s : List ℕ) (w : ℕ) (o : Order) (g : GoodOrder w o) (wide : w ≤ 64) where
  junior_bytes : ℕ → List ℕ
  junior_bytes a = juniors_bytes o.used a (get_or o.juniors a 0)

  -- juniors are in use
  inner : (a : ℕ) → subset 64 (get_or o.juniors a 0) o.used ≡ true
  unfolding senior
  inner a = subset_of 64 (get_or o.juniors a 0) o.used (λ n t. g.in_use.below a n t)

  junior_reads : (i at : ℕ) → i < 64 → Stands s at (junior_bytes i)
      → junior_step s o.used i at (filled_to 0 o.juniors i) ≡ go (at + length (junior_bytes i)) (filled_to 0 o.juniors (i + 1))
  unfolding junior_bytes senior
  junior_reads i at h v =
      by_test (has o.used i)
      (λ t.
      let b = juniors_in o.used i x t in
      junior_in s o.used i at (filled_to 0 o.juniors i) t (set_read s x (g.small i) (rw b at v) o.used (inner i))
      ∙ rw (b, up_set 0 o.juniors i (omega (arith, g.rows))))
      (λ t.
      let b = juniors_out o.used i x t in
      let e : at + 0 ≡ at = omega arith in
      junior_skip s o.used i at (filled_to 0 o.juniors i) t
      ∙ rw (b, e, up_skip 0 o.juniors i (omega (arith, g.rows)) (none_is_empty 64 x (g.small i) (λ n l. (unused_free i g.in_use t).over n))))
    where
      x : ℕ
      x = get_or o.juniors i 0

  -- what is in use is one of the w numbers
  numbered : subset 64 o.used (all_below w) ≡ true
  unfolding all_below
  numbered = subset_of 64 o.used (set_of w (λ n. true)) (λ n t. has-set_of w (λ n. true) n (has_below w o.used n g.width t))

  pub order_read_lem : (at : ℕ) → Stands s at (order_bytes o) → order_at s (all_below w) at ≡ go (at + length (order_bytes o)) o
  unfolding order_at juniors_at order_bytes junior_bytes
  order_read_lem at v =
      let a = num_bytes o.used in
      let r = each junior_bytes 64 0 in
      let u = set_read s o.used (lt_of_lt_of_le g.width (pow_mono wide)) (stands_first a r v) (all_below w) numbered in
      let states = run_states (junior_step s o.used) junior_bytes (filled_to 0 o.juniors) s 64 junior_reads in
      let j = states 64 0 (at + length a) (omega arith) (stands_second a r v) in
      let b = up_none 0 o.juniors in
      let long = g.rows in
      let e = up_all 0 o.juniors 64 (omega arith) (λ k l. get_or-eq_default o.juniors 0 {n = k} (omega arith)) in
      let z : at + length a + length r ≡ at + length (a ++ r) = omega (arith, length-append a r) in
      let k = rw (b, long) at j in
      rw (u, k, e, z)
