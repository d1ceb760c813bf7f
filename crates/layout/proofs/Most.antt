-- Document 01, "The policy file": "10,375 bytes are always enough for first number 1."
-- Assumes nothing.
use Prim.Native.Nat.{ℕ, zero, suc, ◌+◌, ◌-◌, ◌*◌, ◌^◌, ◌<◌, ◌≤◌}
use mathlib.Core.Path.{◌≡◌, sym, ◌∙◌, ap, refl}
use mathlib.Core.Bool.{Bool, true, false}
use mathlib.Core.List.{List, [], ◌++◌}
use mathlib.Core.Logic.{⊎_elim}
use native.Mathlib.Nat.{suc-mul, lt_of_lt_of_le}
use native.Mathlib.Omega.{arith}
use lib.ListN.{length, get_or, length-append}
use lib.Pow.{pow_mono}
use Rattle.sets.specs.Sets.{has, set_of}
use Rattle.sets.proofs.Tests.{not_so}
use Rattle.sets.proofs.Digits.{has_below, has_beyond, same_set, lt_or_le}
use Rattle.sets.proofs.Builders.{set_of_lt, has-set_of, subset_at}
use Rattle.order.specs.declared.Order.{Order}
use Rattle.order.specs.Order.{senior}
use Rattle.ranges.specs.declared.AdminId.{AdminId}
use Rattle.ranges.specs.declared.RoleId.{RoleId}
use Rattle.ranges.specs.Rows.{row_at}
use Rattle.policy.specs.declared.Members.{Members}
use Rattle.policy.specs.declared.People.{People}
use Rattle.policy.specs.declared.Row.{Row}
use Rattle.policy.specs.declared.Table.{Table}
use Rattle.policy.specs.declared.Ranges.{Ranges}
use Rattle.policy.specs.declared.Policy.{Policy}
use Rattle.policy.specs.Build.{empty_row}
use Rattle.policy.specs.Good.{GoodOrder, GoodSets, GoodRow, GoodTable, GoodRanges, Good}
use Rattle.number.specs.Number.{num_bytes}
use Rattle.number.specs.Run.{each}
use Rattle.number.proofs.Bytes.{bytes_most, bytes_below}
use Rattle.layout.specs.Layout.{juniors_bytes, order_bytes, user_bytes, users_bytes, permissions_bytes, ends_bytes, condition_bytes, row_bytes, modify_bytes, rows_bytes, ranges_bytes, policy_bytes}
use Rattle.layout.proofs.Counts.{counted_most}
use Rattle.layout.proofs.Lengths.{juniors_out, juniors_most, order_most, user_of, ends_of, condition_of, condition_none, row_of, tables_of, policy_of}

-- ---- a set of members of another: it is no larger than the other's width
pub members_below : (w s used : ℕ) → w ≤ 64 → s < 2 ^ 64 → used < 2 ^ w → ((n : ℕ) → has s n ≡ true → has used n ≡ true) → s < 2 ^ w
members_below w s used l h u inner = rw same (set_of_lt w (has s))
  where
    none : (n : ℕ) → w ≤ n → has s n ≡ false
    none n b = not_so (has s n) (λ t. omega (arith, has_below w used n u (inner n t)))

    small : set_of w (has s) < 2 ^ 64
    small = lt_of_lt_of_le (set_of_lt w (has s)) (pow_mono l)

    same : s ≡ set_of w (has s)
    same =
        same_set 64 s (set_of w (has s)) h small
        (λ n b. ⊎_elim (λ k. sym (has-set_of w (has s) n k)) (λ k. none n k ∙ sym (has_beyond w (set_of w (has s)) n (set_of_lt w (has s)) k)) (lt_or_le n w))

-- ---- n things of k bytes at most, of which none from w on has any
module _ (f : ℕ → List ℕ) (w k : ℕ) (most : (i : ℕ) → length (f i) ≤ k) (none : (i : ℕ) → w ≤ i → f i ≡ []) where
  pub each_up_to : (n i : ℕ) → length (each f n i) ≤ (w - i) * k
  unfolding each
  each_up_to zero i = omega arith
  each_up_to (suc n) i =
      ⊎_elim
      (λ l.
      let e : w - i ≡ suc (w - (i + 1)) = omega arith in
      omega (arith, length-append (f i) (each f n (i + 1)), most i, each_up_to n (i + 1), suc-mul (w - (i + 1)) k, ap (λ (x : ℕ). x * k) e))
      (λ l.
      let e : w - i ≡ w - (i + 1) = omega arith in
      omega (arith, length-append (f i) (each f n (i + 1)), ap length (none i l), each_up_to n (i + 1), ap (λ (x : ℕ). x * k) e))
      (lt_or_le i w)

-- ---- a number: of a role, an administrative role, brackets, a count of rows, one byte; a count of members, two; an administrative set, three
one_byte : (x : ℕ) → x < 128 → length (num_bytes x) ≤ 1
one_byte x h = bytes_below x 0 h

two_bytes : (x : ℕ) → x < 16384 → length (num_bytes x) ≤ 2
two_bytes x h = bytes_below x 1 h

three_bytes : (x : ℕ) → x < 2 ^ 16 → length (num_bytes x) ≤ 3
three_bytes x h = bytes_below x 2 (omega arith)

-- ---- the order of administrative roles
module _ (o : Order) (g : GoodOrder 16 o) where
  admin_juniors : (a : ℕ) → length (num_bytes (get_or o.juniors a 0)) ≤ 3
  unfolding senior
  admin_juniors a =
      three_bytes (get_or o.juniors a 0)
      (members_below 16 (get_or o.juniors a 0) o.used (omega arith) (g.small a) g.width (λ n t. g.in_use.below a n t))

  admins_most : length (order_bytes o) ≤ 51
  unfolding order_bytes
  admins_most =
      let f : ℕ → List ℕ = λ a. juniors_bytes o.used a (get_or o.juniors a 0) in
      let e : length (each f 64 0) ≤ 16 * 3 =
      each_up_to f 16 3 (λ a. juniors_most o.used a (get_or o.juniors a 0) 3 (admin_juniors a))
      (λ a h. juniors_out o.used a (get_or o.juniors a 0) (has_beyond 16 o.used a g.width h)) 64 0 in
      let l : length (num_bytes o.used ++ each f 64 0) ≤ 51 =
      omega (arith, length-append (num_bytes o.used) (each f 64 0), three_bytes o.used g.width) in
      l

-- ---- users and permissions
module _ (admins : Order) (o : GoodOrder 16 admins) (p : People) (c : p.users.count ≤ 256) (g : GoodSets admins.used p.users.count p.offices) where
  office_most : (i : ℕ) → i < p.users.count → length (num_bytes (get_or p.offices i 0)) ≤ 3
  office_most i h =
      three_bytes (get_or p.offices i 0)
      (members_below 16 (get_or p.offices i 0) admins.used (omega arith) (g.small i) o.width
      (subset_at 64 (get_or p.offices i 0) admins.used (g.small i) (g.inner i h)))

  good_users_most : length (users_bytes p) ≤ 3330
  unfolding users_bytes
  good_users_most =
      counted_most (num_bytes p.users.count) (λ i. user_bytes (get_or p.users.roles i 0) (get_or p.offices i 0)) p.users.count 256 2 13
      (two_bytes p.users.count (omega arith)) c
      (λ i h. omega (arith, user_of (get_or p.users.roles i 0) (get_or p.offices i 0), bytes_most (get_or p.users.roles i 0), office_most i h))

good_permissions_most : (m : Members) → m.count ≤ 256 → length (permissions_bytes m) ≤ 2562
unfolding permissions_bytes
good_permissions_most m c =
    counted_most (num_bytes m.count) (λ i. num_bytes (get_or m.roles i 0)) m.count 256 2 10 (two_bytes m.count (omega arith)) c
    (λ i h. bytes_most (get_or m.roles i 0))

-- ---- rows and tables
module _ (used admins : ℕ) (u : used < 2 ^ 64) (v : admins < 2 ^ 16) where
  good_ends : (admin : AdminId) (low high : RoleId) → has admins admin.0 ≡ true → has used low.0 ≡ true → has used high.0 ≡ true
      → length (ends_bytes admin low high) ≤ 3
  good_ends admin low high a l h =
      omega (
        arith,
        ends_of admin low high,
        one_byte admin.0 (omega (arith, has_below 16 admins admin.0 v a)),
        one_byte low.0 (omega (arith, has_below 64 used low.0 u l)),
        one_byte high.0 (omega (arith, has_below 64 used high.0 u h)),
      )

  good_row : (assign : Bool) (k : ℕ) (row : Row) → GoodRow used admins row → length (condition_bytes assign row.needed row.barred) ≤ k
      → length (row_bytes assign row) ≤ 4 + k
  good_row assign k row g c =
      omega
      (arith, row_of assign row, good_ends row.admin row.low row.high g.admin g.low g.high, one_byte row.brackets (omega (arith, g.brackets)))

  module _ (t : Table) (c : t.count ≤ 64) (g : GoodTable used admins t) where
    good_rows : (assign : Bool) (k : ℕ) → ((row : Row) → length (condition_bytes assign row.needed row.barred) ≤ k)
        → length (rows_bytes assign t) ≤ 1 + 64 * (4 + k)
    unfolding rows_bytes
    good_rows assign k l =
        counted_most (num_bytes t.count) (λ i. row_bytes assign (get_or t.rows i empty_row)) t.count 64 1 (4 + k)
        (one_byte t.count (omega arith)) c
        (λ i h. good_row assign k (get_or t.rows i empty_row) (g.rows i h) (l (get_or t.rows i empty_row)))

    assign_most : length (rows_bytes true t) ≤ 1537
    assign_most = good_rows true 20 (λ row. omega (arith, condition_of row.needed row.barred true refl, bytes_most row.needed, bytes_most row.barred))

    revoke_most : length (rows_bytes false t) ≤ 257
    revoke_most = good_rows false 0 (λ row. omega (arith, condition_none row.needed row.barred false refl))

  good_ranges_most : (m : Ranges) → m.count ≤ 64 → GoodRanges used admins m → length (ranges_bytes m) ≤ 193
  unfolding ranges_bytes modify_bytes
  good_ranges_most m c g =
      counted_most (num_bytes m.count) (λ i. modify_bytes (row_at m.rows i)) m.count 64 1 3 (one_byte m.count (omega arith)) c
      (λ i h. good_ends (row_at m.rows i).admin (row_at m.rows i).low (row_at m.rows i).high (g.admin i h) (g.low i h) (g.high i h))

-- ---- the file of a good policy
pub always_enough : (p : Policy) → Good p → length (policy_bytes p) ≤ 10375
always_enough p g =
    let u = g.roles.width in
    let v = g.admins.width in
    let r = p.orders.roles.used in
    let a = p.orders.admins.used in
    omega (
      arith,
      policy_of p,
      one_byte 1 (omega arith),
      order_most p.orders.roles,
      admins_most p.orders.admins g.admins,
      good_users_most p.orders.admins g.admins p.people g.sizes.users g.offices,
      good_permissions_most p.permissions g.sizes.permissions,
      tables_of p.tables p.modify,
      assign_most r a u v p.tables.assign g.sizes.assign g.assign,
      revoke_most r a u v p.tables.revoke g.sizes.revoke g.revoke,
      assign_most r a u v p.tables.assignp g.sizes.assignp g.assignp,
      revoke_most r a u v p.tables.revokep g.sizes.revokep g.revokep,
      good_ranges_most r a u v p.modify g.sizes.modify g.modify,
    )
