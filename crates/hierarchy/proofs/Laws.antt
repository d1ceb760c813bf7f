-- The tests of kinds 5 to 8, as the code makes them.
-- Assumes nothing.
use mathlib.Core.Path.{◌≡◌, refl, sym, ap, ◌∙◌, subst}
use mathlib.Core.Bool.{Bool, true, false}
use mathlib.Core.List.{List}
use Prim.Native.Nat.{ℕ, ◌<◌, ◌≤◌, ◌^◌}
use lib.Arith.{lt_of_le-ne}
use lib.ListN.{length, take}
use borrow.Author.Tests.{eqb-false}
use Rattle.sets.specs.Sets.{has, size, lowest_free}
use Rattle.sets.proofs.Tests.{and_l, and_r, neg_false}
use Rattle.sets.proofs.Digits.{has_below}
use Rattle.sets.proofs.Quantifiers.{count_le, lowest_room}
use Rattle.order.specs.declared.Order.{Order}
use Rattle.order.specs.Order.{senior}
use Rattle.order.specs.Rows.{Above}
use Rattle.order.specs.Effects.{create, insert, cut_edge}
use Rattle.order.proofs.Converse.{create_converse, insert_converse, cut_converse}
use Rattle.ranges.specs.declared.ModifyRow.{ModifyRow}
use Rattle.ranges.specs.Rows.{unsound}
use Rattle.ranges.specs.After.{SoundBefore}
use Rattle.ranges.proofs.Checks.{unsound_lent, sound_lent}
use Rattle.policy.specs.declared.Policy.{Policy}
use Rattle.policy.specs.Good.{Good}
use Rattle.hierarchy.specs.declared.Site.{Site}
use Rattle.hierarchy.specs.declared.Ground.{Ground}
use Rattle.hierarchy.specs.Ground.{SoundSite}
use Rattle.hierarchy.specs.Rules.{site, unknown_role, unknown_pair, full, new_role, spoils}

-- a role that is not unknown is in use, and so below 64
module _ (s : Site) (a : ℕ) where
  pub known_role : unknown_role s a ≡ false → has s.roles.used a ≡ true
  unfolding unknown_role
  known_role e = and_r _ _ (neg_false _ e)

  module _ (b : ℕ) (e : unknown_pair s a b ≡ false) where
    pub known_first : has s.roles.used a ≡ true
    unfolding unknown_pair
    known_first = and_l _ _ (and_r _ _ (neg_false _ e))

    pub known_second : has s.roles.used b ≡ true
    unfolding unknown_pair
    known_second = and_r _ _ (and_r _ _ (neg_false _ e))

    module _ (w : s.roles.used < 2 ^ 64) where
      pub first_below : a < 64
      first_below = has_below 64 _ a w known_first

      pub second_below : b < 64
      second_below = has_below 64 _ b w known_second

-- where not all 64 roles are in use, the new number is below 64: k is the count and n the number that the code finds
pub new_below : (used k : ℕ) → k ≡ size 64 used → (k ≡ 64 → ⊥) → (n : ℕ) → n ≡ lowest_free 64 used → n < 64
unfolding size
new_below used k e m n q =
    subst (λ (x : ℕ). x < 64) (sym q) (lowest_room 64 used (lt_of_le-ne (count_le 64 (has used)) (λ z. m (e ∙ z))))

pub not_full : (s : Site) → full s ≡ false → new_role s < 64
unfolding full new_role
not_full s e = new_below _ _ refl (eqb-false _ _ e) _ refl

-- number 9 of kind 5: n is the number and o the order after that the code finds
pub spoils-created : (s : Site) (a b n : ℕ) (o : Order) → n ≡ lowest_free 64 s.roles.used → o ≡ create s.roles n a b
    → (r : Bool) → r ≡ spoils s o → spoils s (create s.roles (new_role s) a b) ≡ r
unfolding new_role
spoils-created s a b n o e q r h = ap (λ (m : ℕ). spoils s (create s.roles m a b)) (sym e) ∙ ap (spoils s) (sym q) ∙ sym h

-- ---- what is known before a change

-- the checks are made of the rows in use, lent
module _ (s : Site) {rows : List ModifyRow} (e : (rows ≡ take s.modify.count s.modify.rows) × (s.modify.count ≤ length s.modify.rows)) where
  pub spoils_lent : (o : Order) → unsound o.used (senior o.juniors) (length rows) rows ≡ spoils s o
  unfolding spoils
  spoils_lent o = rw e.0 (unsound_lent _ _ e.1 _ _)

-- what the check after a change asks for, where every range is known to be sound
pub sound_before : (g : Ground) {before : Order} {rows : List ModifyRow} → before ≡ g.site.roles
    → (rows ≡ take g.site.modify.count g.site.modify.rows) × (g.site.modify.count ≤ length g.site.modify.rows) → g.sound ≡ true
    → SoundBefore rows before.used (senior before.juniors)
sound_before g q e t = rw (q, e.0) (record {
  in_use = (g.sound_before t).in_use;
  sound = sound_lent _ _ e.1 _ _ (g.sound_before t).rows;
})

-- the sites of a good policy are sound
pub site_sound : {s : Site} (p : Policy) (o : ℕ) → s ≡ site p o → Good p → SoundSite s
unfolding site
site_sound p o e g = rw e (record { in_use = g.roles.in_use; rows = g.sound })

-- the seniors after each effect, as the code finds them: t is the order before, turned
module _ (g : Ground) {t : Order} (e : t ≡ record { used = g.site.roles.used; juniors = g.seniors }) where
  turned_above : Above g.site.roles.juniors t.juniors
  turned_above = rw e g.above

  module _ (a b : ℕ) {after above : Order} where
    pub created_above : (n : ℕ) → after ≡ create g.site.roles n a b → above ≡ create t n b a → Above after.juniors above.juniors
    created_above n q r = rw (q, r) (create_converse g.site.roles t turned_above n a b)

    pub inserted_above : after ≡ insert g.site.roles a b → above ≡ insert t b a → Above after.juniors above.juniors
    inserted_above q r = rw (q, r) (insert_converse g.site.roles t turned_above a b)

    pub cut_above : after ≡ cut_edge g.site.roles a b → above ≡ cut_edge t b a → Above after.juniors above.juniors
    cut_above q r = rw (q, r) (cut_converse g.site.roles t turned_above a b)
