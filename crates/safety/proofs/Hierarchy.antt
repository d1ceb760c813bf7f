-- Kinds 5 to 8, accepted on a good policy: the order stays strict, every range has low junior to high and is encapsulated, no two overlap in part,
-- and two roles present before and after keep their dominance unless both lie strictly inside one range that this officer may modify.
-- Assumes nothing.
use mathlib.Core.Path.{◌≡◌, refl, sym, ap, ◌∙◌, subst}
use mathlib.Core.Bool.{true, false}
use Prim.Native.Nat.{ℕ, ◌<◌}
use lib.Dec.{eqb}
use borrow.Author.Tests.{eqb-true}
use Rattle.sets.specs.Tests.{◌and◌, neg}
use Rattle.sets.specs.Sets.{has, set_of, lowest_free}
use Rattle.sets.proofs.Tests.{clash, not_so, and_i, and_l, and_r, or_fails_l, or_fails_r, neg_i, neg_e, eqb_sym}
use Rattle.sets.proofs.Digits.{has_below}
use Rattle.sets.proofs.Quantifiers.{any_at, any_none, lowest_free_lem}
use Rattle.sets.proofs.Builders.{has-set_of, in_set_of}
use Rattle.order.specs.declared.Order.{Order}
use Rattle.order.specs.Order.{Relation, senior, relate}
use Rattle.order.specs.Effects.{removed, create, remove, insert, cut_edge}
use Rattle.order.proofs.Lists.{length-relate, rows_relate, senior-relate, same_relate}
use Rattle.order.proofs.Relations.{remove_used}
use Rattle.order.proofs.Keep as keep
use Rattle.order.proofs.Keep.{Sound}
use Rattle.ranges.specs.declared.ModifyRow.{ModifyRow}
use Rattle.ranges.specs.Rows.{row_at, within, SoundRows}
use Rattle.ranges.proofs.Meaning.{sound_means}
use Rattle.policy.specs.declared.Policy.{Policy}
use Rattle.policy.specs.Good.{Good, GoodOrder}
use Rattle.policy.specs.Outcome.{first}
use Rattle.hierarchy.specs.declared.Site.{Site}
use Rattle.hierarchy.specs.Rules.{site, over, edge_in, row_allows, may_modify, new_role, spoils, ranges_name, create_rules, insert_rules, cut_rules}
use Rattle.hierarchy.proofs.Accepted.{create_ok, insert_ok, cut_ok, create_fits}
use Rattle.hierarchy.proofs.Laws.{known_first, known_second}
use Rattle.safety.specs.Dominance.{may_change, Kept}
use Rattle.safety.proofs.Dominance as dominance
use Rattle.safety.proofs.Removal.{remove_sound}

-- what a good policy says of what kinds 5 to 8 look at
pub record GoodSite (s : Site) : Type 0 where
  pub order : GoodOrder 64 s.roles
  pub rows : SoundRows s.roles.used (over s) s.modify.count s.modify.rows

pub good_site : (p : Policy) (o : ℕ) → Good p → GoodSite (site p o)
unfolding site
good_site p o g = record { order = g.roles; rows = g.sound }

sound_of : (o : Order) → GoodOrder 64 o → Sound o
sound_of o g = record { strict = g.strict; in_use = g.in_use; width = g.width }

-- an order made of a relation
good_of : (used : ℕ) (f : Relation) → Sound (record { used = used; juniors = relate 64 f }) → GoodOrder 64 (record { used = used; juniors = relate 64 f })
good_of used f h =
    record { strict = h.strict; in_use = h.in_use; width = h.width; rows = length-relate 64 f; small = rows_relate f }

edge_allows : (kind : ℕ) (f : Relation) (a b : ℕ) (row : ModifyRow) → eqb kind 5 ≡ false → eqb kind 6 ≡ false
    → row_allows kind f a b row ≡ (within f row a and within f row b)
unfolding row_allows edge_in
edge_allows kind f a b row n5 n6 = rw (n5, n6)

-- the row that gave the authority has both roles inside
edge_row : (s : Site) (kind a b : ℕ) → eqb kind 5 ≡ false → eqb kind 6 ≡ false → may_modify s kind a b ≡ true
    → (i : ℕ) × (i < s.modify.count) × (has s.usable (row_at s.modify.rows i).admin.0 ≡ true)
    × ((within (over s) (row_at s.modify.rows i) a and within (over s) (row_at s.modify.rows i) b) ≡ true)
unfolding may_modify
edge_row s kind a b n5 n6 e =
    let r = any_at _ _ e in
    (r.0, r.1, and_l _ _ r.2, sym (edge_allows kind _ a b _ n5 n6) ∙ and_r _ _ r.2)

-- no range that the officer may modify has both x and y inside
not_both : (s : Site) (x y i : ℕ) → may_change s x y ≡ false → i < s.modify.count → has s.usable (row_at s.modify.rows i).admin.0 ≡ true
    → (within (over s) (row_at s.modify.rows i) x and within (over s) (row_at s.modify.rows i) y) ≡ false
unfolding may_change
not_both s x y i e l u = not_so _ (λ t. clash (and_i _ _ u t) (any_none _ _ e i l))

module _ (s : Site) (g : GoodSite s) where
  rows_after : (r : Order) → Sound r → spoils s r ≡ false → SoundRows r.used (senior r.juniors) s.modify.count s.modify.rows
  unfolding spoils
  rows_after r h e = sound_means r.used (senior r.juniors) h.width h.in_use _ _ e

  -- between roles in use the order after has the pairs of its relation
  pair_after : (f : Relation) (x y : ℕ) → has s.roles.used x ≡ true → has s.roles.used y ≡ true → senior (relate 64 f) x y ≡ f x y
  pair_after f x y ux uy = senior-relate 64 f x y (has_below 64 _ x g.order.width ux) (has_below 64 _ y g.order.width uy)

  -- kind 7
  pub insert_kept : (a b : ℕ) → first (insert_rules s a b) ≡ 0 → Kept s (insert s.roles a b)
  unfolding insert within
  insert_kept a b e =
      let ok = insert_ok s a b e in
      let ua = known_first s a b ok.known in
      let ub = known_second s a b ok.known in
      let h = keep.insert_keeps s.roles (sound_of _ g.order) a b ua ub ok.apart in
      let row = edge_row s 7 a b refl refl ok.may in
      record {
        order = good_of _ _ h;
        rows = rows_after _ h ok.sound;
        dominance = λ x y ux uy _ _ c.
            pair_after _ x y ux uy
            ∙ dominance.insert_keeps (over s) s.roles.used _ _ a b g.order.strict g.order.in_use (g.rows.capsule row.0 row.1)
            (and_l _ _ row.3) (and_r _ _ row.3) x y ux uy (not_both s x y row.0 c row.1 row.2);
      }

  -- kind 8
  pub cut_kept : (a b : ℕ) → first (cut_rules s a b) ≡ 0 → Kept s (cut_edge s.roles a b)
  unfolding cut_edge
  cut_kept a b e =
      let ok = cut_ok s a b e in
      let h = keep.cut_keeps s.roles (sound_of _ g.order) a b ok.joined in
      let row = edge_row s 8 a b refl refl ok.may in
      record {
        order = good_of _ _ h;
        rows = rows_after _ h ok.sound;
        dominance = λ x y ux uy _ _ c.
            pair_after _ x y ux uy
            ∙ dominance.cut_keeps (over s) a b x y (not_so _ (λ t. clash
            (subst (λ (z : ℕ). (within (over s) (row_at s.modify.rows row.0) z and within (over s) (row_at s.modify.rows row.0) y) ≡ true)
            (sym (eqb-true x a (and_l _ _ t)))
            (subst (λ (z : ℕ). (within (over s) (row_at s.modify.rows row.0) a and within (over s) (row_at s.modify.rows row.0) z) ≡ true)
            (sym (eqb-true y b (and_r _ _ t))) row.3))
            (not_both s x y row.0 c row.1 row.2)));
      }

  -- kind 5
  pub create_kept : (a b : ℕ) → first (create_rules s a b) ≡ 0 → Kept s (create s.roles (new_role s) a b)
  unfolding create new_role
  create_kept a b e =
      let ok = create_ok s a b e in
      let n = lowest_free 64 s.roles.used in
      let l = (create_fits s g.order.width a b e n refl).0 in
      let free = lowest_free_lem 64 s.roles.used l in
      let ua = known_first s a b ok.known in
      let ub = known_second s a b ok.known in
      let h = keep.create_keeps s.roles (sound_of _ g.order) n a b l free ok.senior in
      let other : (x : ℕ) → has s.roles.used x ≡ true → eqb x n ≡ false =
      λ x u. not_so _ (λ t. clash u (ap (has s.roles.used) (eqb-true x n t) ∙ free)) in
      record {
        order = good_of _ _ h;
        rows = rows_after _ h ok.sound;
        dominance = λ x y ux uy _ _ c. pair_after _ x y ux uy ∙ dominance.create_keeps (over s) n a b x y (other x ux) (other y uy);
      }

  -- kind 6: a is an end of no row
  module _ (a : ℕ) (unnamed : ranges_name s.modify a ≡ false) where
    ends : (i : ℕ) → i < s.modify.count → (eqb (row_at s.modify.rows i).low.0 a ≡ false) × (eqb (row_at s.modify.rows i).high.0 a ≡ false)
    unfolding ranges_name
    ends i l =
        let n = any_none _ _ unnamed i l in
        (eqb_sym _ a ∙ or_fails_l _ _ n, eqb_sym _ a ∙ or_fails_r _ _ n)

    after_used : (x : ℕ) → has (set_of 64 (λ z. has s.roles.used z and neg (eqb z a))) x ≡ true → (has s.roles.used x ≡ true) × (eqb x a ≡ false)
    after_used x u = let m = (in_set_of 64 _ x u).1 in (and_l _ _ m, neg_e _ (and_r _ _ m))

    pub remove_kept : Kept s (remove s.roles a)
    unfolding remove
    remove_kept =
        let h = keep.remove_keeps s.roles (sound_of _ g.order) a in
        record {
          order = good_of _ _ h;
          rows = remove_sound (over s) _ a
              (same_relate (removed (over s) a) _ h.width (remove_used (over s) s.roles.used g.order.in_use a _
              (λ x u n. has-set_of 64 _ x (has_below 64 _ x g.order.width u) ∙ and_i _ _ u (neg_i _ n))))
              s.roles.used _ _ _ after_used ends g.rows;
          dominance = λ x y ux uy vx vy c.
              pair_after _ x y ux uy ∙ dominance.remove_keeps (over s) a x y (after_used x vx).1 (after_used y vy).1;
        }
