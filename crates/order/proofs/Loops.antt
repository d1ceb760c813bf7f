-- The loops through the members of a set of roles: what holds while some are still to come, and what follows when none is.
-- Assumes nothing.
use mathlib.Core.Path.{◌≡◌, refl, sym, ap, ◌∙◌, subst}
use mathlib.Core.Logic.{⊎_elim}
use mathlib.Core.Bool.{Bool, true, false}
use mathlib.Core.List.{List}
use Prim.Native.Nat.{ℕ, zero, suc, ◌+◌, ◌≤◌, ◌<◌, ◌^◌, zero-le}
use native.Mathlib.Nat.{eq-or-lt_of_le}
use native.Mathlib.Omega.{arith}
use lib.Dec.{eqb}
use lib.ListN.{length, get_or, set, take, replicate, length-set, length-take}
use lib.Seq.{get_or-set_same, get_or-set_other, get_or-take, take_all}
use borrow.Author.Tests.{eq-eqb, ne_eqb, eqb-true, eqb-false}
use Rattle.sets.specs.Tests.{◌and◌, ◌or◌, neg}
use Rattle.sets.specs.Sets.{has, any, lowest, subset, Exactly}
use Rattle.sets.proofs.Tests.{by_test, clash, not_so, same_test, and_i, and_l, and_r, and_true, and_given, and_fails_l, and_fails_r}
use Rattle.sets.proofs.Tests.{or_l, or_r, or_cases, or_given, or_false, or_fails, neg_i, neg_e, neg_fails}
use Rattle.sets.proofs.Digits.{has_empty, has_below, has_beyond, none_beyond, lt_or_le}
use Rattle.sets.proofs.Quantifiers.{any_of, any_at, any_fails}
use Rattle.sets.proofs.Builders.{set_of_is, exactly_set}
use Rattle.sets.proofs.Members.{Remaining, left_begin, left_turn, left_end, lowest_in, lowest_below}
use Rattle.order.specs.Order.{senior, at_least, reaches, reached}
use Rattle.order.specs.Rows.{Raised, Above}
use Rattle.order.proofs.Lists.{Rows, senior_past, reaches_past}

-- what is left is no more than there was
pub left_lt : {P : ℕ → Type 0} (w all rest : ℕ) → Remaining P all rest → all < 2 ^ w → rest < 2 ^ w
left_lt w all rest h l =
    none_beyond w rest (λ n m. not_so _ (λ t. clash (h.within n t) (has_beyond w all n l m)))

-- the lowest that is left is a member, and below the width
pub left_lowest : {P : ℕ → Type 0} (w all rest : ℕ) → Remaining P all rest → all < 2 ^ w → 0 < rest → lowest w rest < w
left_lowest w all rest h l n = lowest_below w rest n (left_lt w all rest h l)

pub left_member : {P : ℕ → Type 0} (w all rest : ℕ) → Remaining P all rest → all < 2 ^ w → 0 < rest → has rest (lowest w rest) ≡ true
left_member w all rest h l n = lowest_in w rest n (left_lt w all rest h l)

-- ---- `lacks_one`: the row has all juniors of each member that was taken
-- a member is found whose juniors the row does not all have
pub lacks_found : (js : List ℕ) (row rest b : ℕ) → Remaining (λ x. subset 64 (get_or js x 0) row ≡ true) row rest → row < 2 ^ 64
    → has rest b ≡ true
    → subset 64 (get_or js b 0) row ≡ false → true ≡ any 64 (λ x. has row x and neg (subset 64 (get_or js x 0) row))
lacks_found js row rest b h l m e =
    let t = h.within b m in
    sym (any_of 64 _ b (has_below 64 row b l t) (and_i _ _ t (neg_i _ e)))

pub lacks_none : (js : List ℕ) (row rest : ℕ) → Remaining (λ x. subset 64 (get_or js x 0) row ≡ true) row rest → rest ≡ 0
    → false ≡ any 64 (λ x. has row x and neg (subset 64 (get_or js x 0) row))
lacks_none js row rest h e =
    sym (any_fails 64 _ (λ b l. by_test (has row b)
    (λ t. and_fails_r _ _ (neg_fails _ (left_end _ row rest h e b t))) (λ t. and_fails_l _ _ t)))

-- ---- `reached`: down has the set, the juniors of each member that was taken, and nothing else that the set does not reach
pub record Reaching (js : List ℕ) (set down rest : ℕ) : Type 0 where
  pub left : Remaining (λ a. (b : ℕ) → senior js a b ≡ true → has down b ≡ true) set rest
  pub own : (b : ℕ) → has set b ≡ true → has down b ≡ true
  pub sound : (b : ℕ) → has down b ≡ true → reaches (senior js) set b ≡ true

pub reach_begin : (js : List ℕ) (set : ℕ) → set < 2 ^ 64 → Reaching js set set set
unfolding reaches at_least
reach_begin js set l = record {
  left = left_begin _ set;
  own = λ b t. t;
  sound = λ b t. any_of 64 _ b (has_below 64 set b l t) (and_i _ _ t (or_l _ _ (eq-eqb b b refl)));
}

pub reach_turn : (js : List ℕ) (set down rest a more next : ℕ) → Reaching js set down rest → set < 2 ^ 64 → has rest a ≡ true
    → Exactly more (λ b. has down b or has (get_or js a 0) b) → Exactly next (λ x. has rest x and neg (eqb x a)) → Reaching js set more next
unfolding reaches at_least senior
reach_turn js set down rest a more next h l m em en =
    let t = h.left.within a m in record {
      left = left_turn _ _ set rest next a h.left en (λ x p b u. em b ∙ or_l _ _ (p b u)) (λ b u. em b ∙ or_r _ _ u);
      own = λ b u. em b ∙ or_l _ _ (h.own b u);
      sound = λ b u.
          ⊎_elim (λ (v : has down b ≡ true). h.sound b v)
          (λ (v : has (get_or js a 0) b ≡ true). any_of 64 _ a (has_below 64 set a l t) (and_i _ _ t (or_r _ _ v)))
          (or_cases _ _ (sym (em b) ∙ u));
    }

pub reach_end : (js : List ℕ) (set down rest : ℕ) → Reaching js set down rest → down < 2 ^ 64 → rest ≡ 0 → down ≡ reached (senior js) set
unfolding reached reaches at_least
reach_end js set down rest h l e =
    set_of_is 64 down _ l
    (λ b _. same_test _ _ (h.sound b)
    (λ t. let r = any_at 64 _ t in
    let m = and_l _ _ r.2 in
    ⊎_elim (λ (u : eqb r.0 b ≡ true). h.own b (subst (λ (x : ℕ). has set x ≡ true) (eqb-true r.0 b u) m))
    (λ (u : senior js r.0 b ≡ true). left_end _ set rest h.left e r.0 m b u) (or_cases _ _ (and_r _ _ r.2))))

-- the same where each row is a set of roles: nothing is asked of the number that down is
pub reach_rows : (js : List ℕ) → Rows js → (set down rest : ℕ) → Reaching js set down rest → rest ≡ 0 → down ≡ reached (senior js) set
unfolding reached reaches at_least
reach_rows js rows set down rest h e =
    exactly_set 64 down _ (reaches_past js rows set)
    (λ b. same_test _ _ (h.sound b)
    (λ t. let r = any_at 64 _ t in
    let m = and_l _ _ r.2 in
    ⊎_elim (λ (u : eqb r.0 b ≡ true). h.own b (subst (λ (x : ℕ). has set x ≡ true) (eqb-true r.0 b u) m))
    (λ (u : senior js r.0 b ≡ true). left_end _ set rest h.left e r.0 m b u) (or_cases _ _ (and_r _ _ r.2))))

-- ---- `raise`: a has joined the seniors of each member that was taken, and the others have the seniors that they had
pub record Raising (before : List ℕ) (a row : ℕ) (after : List ℕ) (rest : ℕ) : Type 0 where
  pub long : length after ≡ 64
  pub left : Remaining (λ b. Exactly (get_or after b 0) (λ x. eqb x a or has (get_or before b 0) x)) row rest
  pub ahead : (b : ℕ) → has rest b ≡ true → get_or after b 0 ≡ get_or before b 0
  pub apart : (b : ℕ) → has row b ≡ false → get_or after b 0 ≡ get_or before b 0

pub raise_begin : (before : List ℕ) (a row : ℕ) → length before ≡ 64 → Raising before a row before row
raise_begin before a row e = record { long = e; left = left_begin _ row; ahead = λ b t. refl; apart = λ b t. refl }

-- b is taken: v is the set of its seniors with a
module _ (before : List ℕ) (a row : ℕ) (after : List ℕ) (rest b v next : ℕ) (h : Raising before a row after rest) (l : row < 2 ^ 64)
    (m : has rest b ≡ true) (ev : Exactly v (λ x. eqb x a or has (get_or after b 0) x))
    (en : Exactly next (λ x. has rest x and neg (eqb x b))) where
  member : has row b ≡ true
  member = h.left.within b m

  here : Exactly (get_or (set after b v) b 0) (λ x. eqb x a or has (get_or before b 0) x)
  here x =
      ap (λ (s : ℕ). has s x) (get_or-set_same after b v 0 (omega (arith, h.long, has_below 64 row b l member))) ∙ ev x
      ∙ ap (λ (s : ℕ). eqb x a or has s x) (h.ahead b m)

  other : (c : ℕ) → eqb c b ≡ false → get_or (set after b v) c 0 ≡ get_or after c 0
  other c e = get_or-set_other after b c v 0 (eqb-false c b e)

  pub raise_turn : Raising before a row (set after b v) next
  raise_turn = record {
    long = length-set after b v ∙ h.long;
    left = left_turn _ _ row rest next b h.left en
        (λ c p. by_test (eqb c b)
        (λ t. subst (λ (y : ℕ). Exactly (get_or (set after b v) y 0) (λ x. eqb x a or has (get_or before y 0) x)) (sym (eqb-true c b t)) here)
        (λ t x. ap (λ (s : ℕ). has s x) (other c t) ∙ p x))
        here;
    ahead = λ c t.
        let u = sym (en c) ∙ t in
        other c (neg_e _ (and_r _ _ u)) ∙ h.ahead c (and_l _ _ u);
    apart = λ c t. other c (not_so _ (λ q. clash member (ap (has row) (sym (eqb-true c b q)) ∙ t))) ∙ h.apart c t;
  }

pub raise_end : (before : List ℕ) (a row : ℕ) (after : List ℕ) (rest : ℕ) → Raising before a row after rest → rest ≡ 0
    → Raised before a row after
raise_end before a row after rest h e = record {
  seniors = λ b x.
      by_test (has row b)
      (λ t. left_end _ row rest h.left e b t x ∙ ap (λ (c : Bool). c or has (get_or before b 0) x) (sym (rw t (and_true (eqb x a)))))
      (λ t. ap (λ (s : ℕ). has s x) (h.apart b t) ∙ sym (or_given _ _ (and_fails_r _ _ t)));
}

-- ---- `all_seniors`: above has the seniors of each role that stand among the first rows
first_in : (js : List ℕ) (k b x : ℕ) → x < k → senior (take k js) x b ≡ senior js x b
unfolding senior
first_in js k b x l = ap (λ (s : ℕ). has s b) (get_or-take k js x 0 l)

first_past : (js : List ℕ) (k b x : ℕ) → k ≤ x → senior (take k js) x b ≡ false
first_past js k b x l = senior_past (take k js) b x (omega (arith, length-take k js))

-- one row more: its role joins the seniors of its juniors
one_row : (js : List ℕ) (a b x : ℕ) → senior (take (a + 1) js) x b ≡ ((eqb x a and senior js a b) or senior (take a js) x b)
one_row js a b x =
    ⊎_elim
    (λ l. first_in js (a + 1) b x (omega arith)
    ∙ sym (or_given _ _ (and_fails_l _ _ (ne_eqb x a (omega arith))) ∙ first_in js a b x l))
    (λ l. ⊎_elim
    (λ e. first_in js (a + 1) b x (omega arith)
    ∙ sym (rw (first_past js a b x l, or_false, and_given _ _ (eq-eqb x a (sym e)), e)))
    (λ m. first_past js (a + 1) b x (omega arith)
    ∙ sym (or_fails _ _ (and_fails_l _ _ (ne_eqb x a (omega arith))) (first_past js a b x l)))
    (eq-or-lt_of_le l)) (lt_or_le x a)

zeros : (n b : ℕ) → ◌≡◌ {A = ℕ} (get_or (replicate n 0) b 0) 0
zeros zero b = refl
zeros (suc n) zero = refl
zeros (suc n) (suc b) = zeros n b

pub above_none : (n : ℕ) (js : List ℕ) → Above (take 0 js) (replicate n 0)
above_none n js = record { seniors = λ b x. ap (λ (s : ℕ). has s x) (zeros n b) ∙ has_empty x ∙ sym (first_past js 0 b x zero-le) }

pub above_turn : (js above next : List ℕ) (a : ℕ) → Above (take a js) above → Raised above a (get_or js a 0) next
    → Above (take (a + 1) js) next
unfolding senior
above_turn js above next a h r = record {
  seniors = λ b x.
      r.seniors b x ∙ ap (λ (c : Bool). (eqb x a and has (get_or js a 0) b) or c) (h.seniors b x) ∙ sym (one_row js a b x);
}

pub above_end : (js above : List ℕ) (a : ℕ) → length js ≤ a → Above (take a js) above → Above js above
above_end js above a l h = subst (λ (t : List ℕ). Above t above) (take_all a js l) h
