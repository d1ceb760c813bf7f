-- The first round trip: reading what was written gives the same policy, for every good policy.
-- Assumes nothing.
use Prim.Native.Nat.{ℕ, ◌+◌}
use mathlib.Core.Path.{◌≡◌, refl, sym, ◌∙◌}
use mathlib.Core.Bool.{true, false}
use mathlib.Core.List.{List, [], ◌++◌, append-nil}
use native.Mathlib.Nat.{lt_of_lt_of_le}
use native.Mathlib.Omega.{arith}
use borrow.Author.Tests.{le-ltb}
use lib.Dec.{eqb}
use lib.ListN.{length, length-append}
use lib.Pow.{pow_mono}
use Rattle.sets.proofs.Tests.{clash, or_fails, or_fails_l, or_fails_r}
use Rattle.order.specs.declared.Order.{Order}
use Rattle.order.specs.Order.{senior, first_fault}
use Rattle.order.proofs.Lists.{strict_no_fault}
use Rattle.ranges.specs.Rows.{unsound}
use Rattle.ranges.proofs.Meaning.{means_sound}
use Rattle.policy.specs.declared.Policy.{Policy}
use Rattle.policy.specs.Outcome.{first}
use Rattle.policy.specs.Good.{GoodOrder, Good}
use Rattle.number.specs.Number.{num_bytes}
use Rattle.number.specs.Run.{go}
use Rattle.number.proofs.Parts.{Stands, stands_first, stands_second}
use Rattle.number.proofs.Tested.{tested_written}
use Rattle.faults.specs.Faults.{not_strict, some_low, some_open, two_overlap, fault}
use Rattle.faults.proofs.Laws.{strict_found}
use Rattle.reading.specs.File.{Accepted}
use Rattle.reading.specs.declared.Places.{Places}
use Rattle.reading.specs.File.{one_at, front, front_at, rest, places, rest_at, judge, file_at, read_policy}
use Rattle.layout.specs.Layout.{order_bytes, users_bytes, permissions_bytes, rows_bytes, ranges_bytes, table_of, tables_bytes, sections_bytes, policy_bytes}
use Rattle.trips.proofs.ReadSections.{order_read_lem, users_read, permissions_read}
use Rattle.trips.proofs.ReadRows.{rows_read, ranges_read_lem}

-- ---- what stands after other bytes, at the place that is past them
pub stands_after : {s : List ℕ} {at n : ℕ} (a b : List ℕ) → n ≡ at + length a → Stands s at (a ++ b) → Stands s n b
stands_after a b e w = rw e (stands_second a b w)

-- ---- a good policy has none of the faults 23 to 26
strict_order : (w : ℕ) (o : Order) → GoodOrder w o → not_strict o ≡ false
strict_order w o k =
    sym (strict_found o k.rows)
    ∙ le-ltb (first_fault o.juniors) 64 (omega (arith, strict_no_fault o.juniors k.small (omega (arith, k.rows)) k.strict, k.rows))

module _ (p : Policy) (g : Good p) where
  none_unsound : unsound p.orders.roles.used (senior p.orders.roles.juniors) p.modify.count p.modify.rows ≡ false
  none_unsound = means_sound p.orders.roles.used (senior p.orders.roles.juniors) p.modify.count p.modify.rows g.sound

  none_low : some_low p.orders.roles p.modify ≡ false
  unfolding unsound some_low
  none_low = or_fails_l _ _ none_unsound

  none_open : some_open p.orders.roles p.modify ≡ false
  unfolding unsound some_open
  none_open = or_fails_l _ _ (or_fails_r _ _ none_unsound)

  none_overlap : two_overlap p.orders.roles p.modify ≡ false
  unfolding unsound two_overlap
  none_overlap = or_fails_r _ _ (or_fails_r _ _ none_unsound)

  pub good_faultless : fault p.orders p.modify ≡ 0
  unfolding fault first
  good_faultless =
      let strict = or_fails _ _ (strict_order 64 p.orders.roles g.roles) (strict_order 16 p.orders.admins g.admins) in
      rw (strict, none_low, none_open, none_overlap)

  -- ---- what stands before the tables
  pub front_read : (s : List ℕ) → Stands s 0 (sections_bytes p.orders.roles p.orders.admins p.people p.permissions)
      → front_at s 0 ≡ go (length (sections_bytes p.orders.roles p.orders.admins p.people p.permissions))
      (front p.orders.roles p.orders.admins p.people p.permissions)
  unfolding front_at one_at sections_bytes
  front_read s w =
      let a = num_bytes 1 in
      let b = order_bytes p.orders.roles in
      let c = order_bytes p.orders.admins in
      let d = users_bytes p.people in
      let e = permissions_bytes p.permissions in
      let w4 = stands_first (a ++ b ++ c ++ d) e w in
      let w3 = stands_first (a ++ b ++ c) d w4 in
      let w2 = stands_first (a ++ b) c w3 in
      let ab = length-append a b in
      let abc = length-append (a ++ b) c in
      let abcd = length-append (a ++ b ++ c) d in
      let one = tested_written (λ x. eqb x 1) s 0 1 (omega arith) refl (stands_first a b w2) in
      let ro = order_read_lem s 64 p.orders.roles g.roles (omega arith) (0 + length a) (stands_second a b w2) in
      let ad = order_read_lem s 16 p.orders.admins g.admins (omega arith) (0 + length a + length b) (stands_after (a ++ b) c (omega arith) w3) in
      let us = users_read s p.orders.roles.used p.orders.admins.used p.people g.sizes.users g.users g.offices
      (0 + length a + length b + length c) (stands_after (a ++ b ++ c) d (omega arith) w4) in
      let pe = permissions_read s p.orders.roles.used p.permissions g.sizes.permissions g.permissions
      (0 + length a + length b + length c + length d) (stands_after (a ++ b ++ c ++ d) e (omega arith) w) in
      let z : 0 + length a + length b + length c + length d + length e ≡ length (a ++ b ++ c ++ d ++ e) = omega (arith, length-append (a ++ b ++ c ++ d) e) in
      rw (one, ro, ad, us, pe, z)

  -- ---- the tables, with the places where they start
  pub tables_read : (s : List ℕ) (at : ℕ) → Stands s at (tables_bytes p.tables p.modify)
      → (l : Places) × (rest_at s p.orders.roles.used p.orders.admins.used at ≡ go (at + length (tables_bytes p.tables p.modify))
      (rest p.tables.assign p.tables.revoke p.tables.assignp p.tables.revokep p.modify l))
  unfolding rest_at tables_bytes table_of
  tables_read s at w =
      let roles = p.orders.roles.used in
      let admins = p.orders.admins.used in
      let u = g.roles.width in
      let v = lt_of_lt_of_le g.admins.width (pow_mono {i = 16} {j = 64} (omega arith)) in
      let a = rows_bytes true p.tables.assign in
      let b = rows_bytes false p.tables.revoke in
      let c = rows_bytes true p.tables.assignp in
      let d = rows_bytes false p.tables.revokep in
      let e = ranges_bytes p.modify in
      let w4 = stands_first (a ++ b ++ c ++ d) e w in
      let w3 = stands_first (a ++ b ++ c) d w4 in
      let w2 = stands_first (a ++ b) c w3 in
      let ab = length-append a b in
      let abc = length-append (a ++ b) c in
      let abcd = length-append (a ++ b ++ c) d in
      let b_at = at + length a in
      let c_at = b_at + length b in
      let d_at = c_at + length c in
      let e_at = d_at + length d in
      let end = at + length (a ++ b ++ c ++ d ++ e) in
      let ra = rows_read s roles admins u v true p.tables.assign g.sizes.assign g.assign (λ x. clash refl x) at (stands_first a b w2) in
      let rb = rows_read s roles admins u v false p.tables.revoke g.sizes.revoke g.revoke (λ x. g.revoke_plain) b_at (stands_second a b w2) in
      let rc = rows_read s roles admins u v true p.tables.assignp g.sizes.assignp g.assignp (λ x. clash refl x) c_at
      (stands_after (a ++ b) c (omega arith) w3) in
      let rd = rows_read s roles admins u v false p.tables.revokep g.sizes.revokep g.revokep (λ x. g.revokep_plain) d_at
      (stands_after (a ++ b ++ c) d (omega arith) w4) in
      let re = ranges_read_lem s roles admins u v p.modify g.sizes.modify g.modify e_at (stands_after (a ++ b ++ c ++ d) e (omega arith) w) in
      let z : e_at + length e ≡ end = omega (arith, length-append (a ++ b ++ c ++ d) e) in (
        places at b_at c_at d_at e_at end,
        rw (ra, rb, rc, rd, re, z),
      )

  -- ---- the file
  pub file_read : (l : Places) × (file_at (policy_bytes p) ≡ go (length (policy_bytes p)) (record { policy = p; places = l }))
  unfolding file_at judge policy_bytes
  file_read =
      let a = sections_bytes p.orders.roles p.orders.admins p.people p.permissions in
      let b = tables_bytes p.tables p.modify in
      let w : Stands (a ++ b) 0 (a ++ b) = record { rest = []; here = sym (append-nil (a ++ b)) } in
      let f = front_read (a ++ b) (stands_first a b w) in
      let r = tables_read (a ++ b) (length a) (stands_after a b (omega arith) w) in
      let over = le-ltb (length a + length b) (length (a ++ b)) (omega (arith, length-append a b)) in
      let z : length a + length b ≡ length (a ++ b) = sym (length-append a b) in
      (r.0, rw (f, r.1, over, good_faultless, z))

  -- Reading what was written gives the same policy.
  pub read_written_policy : read_policy (policy_bytes p) ≡ record { how = Accepted; policy = p }
  unfolding read_policy
  read_written_policy = rw file_read.1
