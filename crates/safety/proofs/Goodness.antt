-- A good policy stays good under kinds 5 to 8. Roles that go out of use are named by no row and have no members.
-- Assumes nothing.
use mathlib.Core.Path.{◌≡◌, refl, ◌∙◌, subst}
use mathlib.Core.Bool.{Bool, true, false}
use mathlib.Core.List.{List}
use Prim.Native.Nat.{ℕ, ◌<◌, ◌^◌}
use lib.Dec.{eqb}
use lib.ListN.{get_or}
use borrow.Author.Tests.{eqb-true}
use Rattle.sets.specs.Tests.{◌or◌}
use Rattle.sets.specs.Sets.{has, subset}
use Rattle.sets.proofs.Tests.{clash, not_so, and_i, or_fails_l, or_fails_r, or_r, neg_i, eqb_sym}
use Rattle.sets.proofs.Digits.{has_below}
use Rattle.sets.proofs.Quantifiers.{any_none}
use Rattle.sets.proofs.Builders.{has-set_of, subset_at, subset_of}
use Rattle.order.specs.declared.Order.{Order}
use Rattle.order.specs.Effects.{create, remove, insert, cut_edge}
use Rattle.ranges.specs.Rows.{row_at}
use Rattle.policy.specs.declared.Policy.{Policy}
use Rattle.policy.specs.declared.Members.{Members}
use Rattle.policy.specs.declared.Row.{Row}
use Rattle.policy.specs.declared.Table.{Table}
use Rattle.policy.specs.Build.{empty_row, with_roles}
use Rattle.policy.specs.Good.{Good, GoodSets, GoodTable}
use Rattle.policy.proofs.Outcomes.{answer_policy}
use Rattle.hierarchy.specs.Rules.{site, row_names, table_names, ranges_name, named, some_in, create_role, delete_role, insert_edge, delete_edge}
use Rattle.hierarchy.proofs.Accepted.{delete_ok}
use Rattle.safety.specs.Dominance.{Kept}
use Rattle.safety.proofs.Hierarchy.{good_site, create_kept, remove_kept, insert_kept, cut_kept}

-- no end, needed or barred role of a row is gone
record RowFree (gone : ℕ → Bool) (row : Row) : Type 0 where
  low : gone row.low.0 ≡ false
  high : gone row.high.0 ≡ false
  needed : (x : ℕ) → has row.needed x ≡ true → gone x ≡ false
  barred : (x : ℕ) → has row.barred x ≡ true → gone x ≡ false

TableFree : (ℕ → Bool) → Table → Type 0
TableFree gone t = (i : ℕ) → i < t.count → RowFree gone (get_or t.rows i empty_row)

SetsFree : (ℕ → Bool) → ℕ → List ℕ → Type 0
SetsFree gone count l = (i x : ℕ) → i < count → has (get_or l i 0) x ≡ true → gone x ≡ false

-- what a policy names and has members of is not gone
record Free (gone : ℕ → Bool) (p : Policy) : Type 0 where
  users : SetsFree gone p.people.users.count p.people.users.roles
  permissions : SetsFree gone p.permissions.count p.permissions.roles
  assign : TableFree gone p.tables.assign
  revoke : TableFree gone p.tables.revoke
  assignp : TableFree gone p.tables.assignp
  revokep : TableFree gone p.tables.revokep
  lows : (i : ℕ) → i < p.modify.count → gone (row_at p.modify.rows i).low.0 ≡ false
  highs : (i : ℕ) → i < p.modify.count → gone (row_at p.modify.rows i).high.0 ≡ false

-- used are the roles in use before, and after those after: each that is not gone stays
module _ (gone : ℕ → Bool) (used after : ℕ) (stay : (x : ℕ) → has used x ≡ true → gone x ≡ false → has after x ≡ true) where
  set_stays : (s : ℕ) → s < 2 ^ 64 → subset 64 s used ≡ true → ((x : ℕ) → has s x ≡ true → gone x ≡ false) → subset 64 s after ≡ true
  set_stays s w e n = subset_of 64 s after (λ x u. stay x (subset_at 64 s used w e x u) (n x u))

  sets_stay : (count : ℕ) (l : List ℕ) → SetsFree gone count l → GoodSets used count l → GoodSets after count l
  unfolding SetsFree
  sets_stay count l n g =
      record { inner = λ i h. set_stays _ (g.small i) (g.inner i h) (λ x u. n i x h u); small = g.small; rest = g.rest; long = g.long }

  table_stays : (admins : ℕ) (t : Table) → TableFree gone t → GoodTable used admins t → GoodTable after admins t
  unfolding TableFree
  table_stays admins t n g =
      record {
        rows = λ i h.
            let r = g.rows i h in
            let f = n i h in
            record {
              admin = r.admin;
              low = stay _ r.low f.low;
              high = stay _ r.high f.high;
              brackets = r.brackets;
              needed = set_stays _ r.needed_small r.needed f.needed;
              barred = set_stays _ r.barred_small r.barred f.barred;
              needed_small = r.needed_small;
              barred_small = r.barred_small;
            };
        rest = g.rest;
        long = g.long;
      }

module _ (p : Policy) (o : ℕ) (g : Good p) where
  good_with : (r : Order) → Kept (site p o) r → (gone : ℕ → Bool) → ((x : ℕ) → has p.orders.roles.used x ≡ true → gone x ≡ false → has r.used x ≡ true)
      → Free gone p → Good (with_roles p r)
  unfolding site
  good_with r k gone stay n =
      record {
        sizes = record {
          users = g.sizes.users;
          permissions = g.sizes.permissions;
          assign = g.sizes.assign;
          revoke = g.sizes.revoke;
          assignp = g.sizes.assignp;
          revokep = g.sizes.revokep;
          modify = g.sizes.modify;
        };
        roles = k.order;
        admins = g.admins;
        users = sets_stay gone _ _ stay _ _ n.users g.users;
        offices = g.offices;
        permissions = sets_stay gone _ _ stay _ _ n.permissions g.permissions;
        assign = table_stays gone _ _ stay _ _ n.assign g.assign;
        revoke = table_stays gone _ _ stay _ _ n.revoke g.revoke;
        assignp = table_stays gone _ _ stay _ _ n.assignp g.assignp;
        revokep = table_stays gone _ _ stay _ _ n.revokep g.revokep;
        revoke_plain = g.revoke_plain;
        revokep_plain = g.revokep_plain;
        modify = record {
          admin = g.modify.admin;
          low = λ i h. stay _ (g.modify.low i h) (n.lows i h);
          high = λ i h. stay _ (g.modify.high i h) (n.highs i h);
          rest = g.modify.rest;
          long = g.modify.long;
        };
        sound = k.rows;
      }

  -- kinds 5, 7 and 8: no role goes
  none_gone : Free (λ x. false) p
  unfolding TableFree SetsFree
  none_gone =
      record {
        users = λ i x h u. refl;
        permissions = λ i x h u. refl;
        assign = λ i h. free_row;
        revoke = λ i h. free_row;
        assignp = λ i h. free_row;
        revokep = λ i h. free_row;
        lows = λ i h. refl;
        highs = λ i h. refl;
      }
    where
      free_row : {row : Row} → RowFree (λ x. false) row
      free_row = record { low = refl; high = refl; needed = λ x u. refl; barred = λ x u. refl }

  -- kind 6: a is named by no row and has no members
  module _ (a : ℕ) (unnamed : named p.tables p.modify a ≡ false) (empty : (some_in p.people.users a or some_in p.permissions a) ≡ false) where
    sets_free : (m : Members) → some_in m a ≡ false → SetsFree (λ x. eqb x a) m.count m.roles
    unfolding SetsFree some_in
    sets_free m e i x l u = not_so _ (λ t. clash (subst (λ (z : ℕ). has (get_or m.roles i 0) z ≡ true) (eqb-true x a t) u) (any_none _ _ e i l))

    row_free : (row : Row) → row_names row a ≡ false → RowFree (λ x. eqb x a) row
    unfolding row_names
    row_free row e =
        let e2 = or_fails_r _ _ e in
        let e3 = or_fails_r _ _ e2 in
        record {
          low = eqb_sym _ a ∙ or_fails_l _ _ e;
          high = eqb_sym _ a ∙ or_fails_l _ _ e2;
          needed = λ x u. not_so _ (λ t. clash (subst (λ (z : ℕ). has row.needed z ≡ true) (eqb-true x a t) u) (or_fails_l _ _ e3));
          barred = λ x u. not_so _ (λ t. clash (subst (λ (z : ℕ). has row.barred z ≡ true) (eqb-true x a t) u) (or_fails_r _ _ e3));
        }

    table_free : (t : Table) → table_names t a ≡ false → TableFree (λ x. eqb x a) t
    unfolding TableFree table_names
    table_free t e i l = row_free _ (any_none _ _ e i l)

    one_gone : Free (λ x. eqb x a) p
    unfolding named ranges_name
    one_gone =
        let n2 = or_fails_r _ _ unnamed in
        let n3 = or_fails_r _ _ n2 in
        let n4 = or_fails_r _ _ n3 in
        let n5 = or_fails_r _ _ n4 in
        record {
          users = sets_free _ (or_fails_l _ _ empty);
          permissions = sets_free _ (or_fails_r _ _ empty);
          assign = table_free _ (or_fails_l _ _ unnamed);
          revoke = table_free _ (or_fails_l _ _ n2);
          assignp = table_free _ (or_fails_l _ _ n3);
          revokep = table_free _ (or_fails_l _ _ n4);
          lows = λ i l. eqb_sym _ a ∙ or_fails_l _ _ (any_none _ _ n5 i l);
          highs = λ i l. eqb_sym _ a ∙ or_fails_r _ _ (any_none _ _ n5 i l);
        }

    pub ranges_free : ranges_name p.modify a ≡ false
    unfolding named
    ranges_free = or_fails_r _ _ (or_fails_r _ _ (or_fails_r _ _ (or_fails_r _ _ unnamed)))

  -- ---- each kind, accepted or refused
  module _ (a b : ℕ) where
    pub create_good : Good (create_role p o a b).policy
    unfolding create_role site create
    create_good =
        answer_policy Good p _ _ _ g (λ z. good_with _ (create_kept _ (good_site p o g) a b z) (λ x. false)
        (λ x u _. has-set_of 64 _ x (has_below 64 _ x g.roles.width u) ∙ or_r _ _ u) none_gone)

    pub delete_good : Good (delete_role p o a b).policy
    unfolding delete_role site remove
    delete_good =
        answer_policy Good p _ _ _ g (λ z.
        let ok = delete_ok _ _ _ a b z in
        good_with _ (remove_kept _ (good_site p o g) a (ranges_free a ok.unnamed ok.empty)) (λ x. eqb x a)
        (λ x u n. has-set_of 64 _ x (has_below 64 _ x g.roles.width u) ∙ and_i _ _ u (neg_i _ n)) (one_gone a ok.unnamed ok.empty))

    pub insert_good : Good (insert_edge p o a b).policy
    unfolding insert_edge site insert
    insert_good = answer_policy Good p _ _ _ g (λ z. good_with _ (insert_kept _ (good_site p o g) a b z) (λ x. false) (λ x u _. u) none_gone)

    pub cut_good : Good (delete_edge p o a b).policy
    unfolding delete_edge site cut_edge
    cut_good = answer_policy Good p _ _ _ g (λ z. good_with _ (cut_kept _ (good_site p o g) a b z) (λ x. false) (λ x u _. u) none_gone)
