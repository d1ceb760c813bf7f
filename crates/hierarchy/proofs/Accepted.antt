-- What holds where a request of kinds 5 to 8 is accepted.
-- Assumes nothing.
use mathlib.Core.Path.{◌≡◌, refl, sym, subst}
use mathlib.Core.Bool.{Bool, true, false}
use Prim.Native.Nat.{ℕ, ◌<◌, ◌≤◌, ◌^◌}
use lib.Dec.{eqb}
use borrow.Author.Tests.{eqb-false}
use Rattle.sets.specs.Tests.{◌and◌, neg}
use Rattle.sets.specs.Sets.{lowest_free}
use Rattle.sets.proofs.Tests.{neg_false}
use Rattle.sets.proofs.Digits.{has_below}
use Rattle.order.specs.Order.{comparable, edge}
use Rattle.order.specs.Effects.{create, insert, cut_edge}
use Rattle.policy.specs.declared.Policy.{Policy}
use Rattle.policy.specs.Outcome.{first}
use Rattle.hierarchy.specs.declared.Site.{Site}
use Rattle.policy.proofs.Outcomes.{condition, nonzero, passed}
use Rattle.hierarchy.proofs.Laws.{known_role, first_below, second_below, new_below}
use Rattle.hierarchy.specs.Rules.{site, over, may_modify, unknown_role, unknown_pair, full, new_role, spoils, create_rules, delete_rules, insert_rules, cut_rules}

pub record CreateOk (s : Site) (a b : ℕ) : Type 0 where
  pub known : unknown_pair s a b ≡ false
  pub may : may_modify s 5 a b ≡ true
  pub senior : over s a b ≡ true
  pub room : full s ≡ false
  pub sound : spoils s (create s.roles (new_role s) a b) ≡ false

pub create_ok : (s : Site) (a b : ℕ) → first (create_rules s a b) ≡ 0 → CreateOk s a b
unfolding create_rules condition nonzero ◌and◌ neg
create_ok s a b e =
    let at : (n : ℕ) → condition n (create_rules s a b) ≡ false = λ n. passed n (create_rules s a b) refl e in
    record {
      known = at 2;
      may = neg_false _ (at 3);
      senior = neg_false _ (at 5);
      room = at 6;
      sound = at 9;
    }

pub record DeleteOk (s : Site) (names members : Bool) (a b : ℕ) : Type 0 where
  pub zero : eqb b 0 ≡ true
  pub known : unknown_role s a ≡ false
  pub may : may_modify s 6 a b ≡ true
  pub unnamed : names ≡ false
  pub empty : members ≡ false

pub delete_ok : (s : Site) (names members : Bool) (a b : ℕ) → first (delete_rules s names members a b) ≡ 0 → DeleteOk s names members a b
unfolding delete_rules condition nonzero ◌and◌ neg
delete_ok s names members a b e =
    let at : (n : ℕ) → condition n (delete_rules s names members a b) ≡ false = λ n. passed n (delete_rules s names members a b) refl e in
    record {
      zero = neg_false _ (at 1);
      known = at 2;
      may = neg_false _ (at 3);
      unnamed = at 7;
      empty = at 8;
    }

pub record InsertOk (s : Site) (a b : ℕ) : Type 0 where
  pub known : unknown_pair s a b ≡ false
  pub may : may_modify s 7 a b ≡ true
  pub apart : comparable (over s) a b ≡ false
  pub sound : spoils s (insert s.roles a b) ≡ false

pub insert_ok : (s : Site) (a b : ℕ) → first (insert_rules s a b) ≡ 0 → InsertOk s a b
unfolding insert_rules condition nonzero ◌and◌ neg
insert_ok s a b e =
    let at : (n : ℕ) → condition n (insert_rules s a b) ≡ false = λ n. passed n (insert_rules s a b) refl e in
    record {
      known = at 2;
      may = neg_false _ (at 3);
      apart = at 5;
      sound = at 9;
    }

pub record CutOk (s : Site) (a b : ℕ) : Type 0 where
  pub known : unknown_pair s a b ≡ false
  pub may : may_modify s 8 a b ≡ true
  pub joined : edge (over s) a b ≡ true
  pub sound : spoils s (cut_edge s.roles a b) ≡ false

pub cut_ok : (s : Site) (a b : ℕ) → first (cut_rules s a b) ≡ 0 → CutOk s a b
unfolding cut_rules condition nonzero ◌and◌ neg
cut_ok s a b e =
    let at : (n : ℕ) → condition n (cut_rules s a b) ≡ false = λ n. passed n (cut_rules s a b) refl e in
    record {
      known = at 2;
      may = neg_false _ (at 3);
      joined = neg_false _ (at 5);
      sound = at 9;
    }

-- ---- what the effects ask for: numbers below 64
module _ (s : Site) (w : s.roles.used < 2 ^ 64) where
  pub create_fits : (a b : ℕ) → first (create_rules s a b) ≡ 0 → (n : ℕ) → n ≡ lowest_free 64 s.roles.used → (n < 64) × (a < 64) × (b < 64)
  unfolding full
  create_fits a b e n q =
      let ok = create_ok s a b e in
      (new_below _ _ refl (eqb-false _ _ ok.room) n q, first_below s a b ok.known w, second_below s a b ok.known w)

  pub delete_fits : (names members : Bool) (a b : ℕ) → first (delete_rules s names members a b) ≡ 0 → a < 64
  delete_fits names members a b e = has_below 64 _ a w (known_role s a (delete_ok s names members a b e).known)

  pub insert_fits : (a b : ℕ) → first (insert_rules s a b) ≡ 0 → (a < 64) × (b < 64)
  insert_fits a b e = let ok = insert_ok s a b e in (first_below s a b ok.known w, second_below s a b ok.known w)

  pub cut_fits : (a b : ℕ) → first (cut_rules s a b) ≡ 0 → (a < 64) × (b < 64)
  cut_fits a b e = let ok = cut_ok s a b e in (first_below s a b ok.known w, second_below s a b ok.known w)

-- what the code finds of an officer is what the policy says
pub site-size : {s : Site} (p : Policy) (o : ℕ) → s ≡ site p o → p.modify.count ≤ 64 → s.modify.count ≤ 64
unfolding site
site-size p o e l = subst (λ (s : Site). s.modify.count ≤ 64) (sym e) l
