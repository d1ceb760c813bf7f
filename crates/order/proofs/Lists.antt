-- Orders as lists of sets: what a list made of a relation says, when two are one, and that the test of the code decides `Strict`.
-- Assumes nothing.
use mathlib.Core.Path.{◌≡◌, refl, sym, ap, ◌∙◌, subst}
use mathlib.Core.Logic.{⊎_elim}
use mathlib.Core.Bool.{Bool, true, false}
use mathlib.Core.List.{List}
use Prim.Native.Nat.{ℕ, zero, suc, ◌+◌, ◌≤◌, ◌<◌, ◌^◌}
use native.Mathlib.Nat.{not-suc-le-zero, le_of_suc-le-suc, add-zero, add-suc, suc-add, zero-add, eq-or-lt_of_le}
use native.Mathlib.Omega.{arith}
use lib.ListN.{length, get_or, set, length-set, get_or-eq_default}
use lib.Seq.{ext_get_or, get_or-set_same, get_or-set_other}
use borrow.Author.Tests.{ne_eqb}
use Rattle.sets.specs.Tests.{◌and◌, neg}
use Rattle.sets.specs.Sets.{has, any, set_of, subset, Exactly}
use Rattle.sets.proofs.Tests.{by_test, clash, not_so, and_i, and_l, and_r, or_fails, or_fails_l, or_fails_r, neg_e, neg_false, and_fails_r}
use Rattle.sets.proofs.Digits.{has_empty, has_below, lt_or_le}
use Rattle.sets.proofs.Quantifiers.{any_at, any_same, any_fails, any_none, least_is, least_below}
use Rattle.sets.proofs.Builders.{set_of_lt, has-set_of, in_set_of, exactly_is, subset_lacks}
use Rattle.order.specs.Order.{Relation, senior, at_least, reaches, Strict, InUse, faulty, first_fault, tab_from, relate}
use Rattle.order.specs.Rows.{Pairs}

-- each row is a set of numbers below 64, which a `&[u64]` always gives
abbrev pub Rows : List ℕ → Type 0
Rows js = (a : ℕ) → get_or js a 0 < 2 ^ 64

-- past the last row nothing is a junior
pub senior_past : (js : List ℕ) (b a : ℕ) → length js ≤ a → senior js a b ≡ false
unfolding senior
senior_past js b a l = ap (λ (s : ℕ). has s b) (get_or-eq_default js 0 l) ∙ has_empty b

pub senior_row : (js : List ℕ) (a b : ℕ) → senior js a b ≡ true → a < length js
senior_row js a b e = ⊎_elim (λ l. l) (λ l. clash e (senior_past js b a l)) (lt_or_le a (length js))

pub junior_below : (js : List ℕ) → Rows js → (a b : ℕ) → senior js a b ≡ true → b < 64
unfolding senior
junior_below js rows a b e = has_below 64 (get_or js a 0) b (rows a) e

pub junior_past : (js : List ℕ) → Rows js → (a b : ℕ) → 64 ≤ b → senior js a b ≡ false
junior_past js rows a b l = not_so _ (λ e. absurd (omega (arith, junior_below js rows a b e)))

-- no member reaches a number that no role has
pub reaches_past : (js : List ℕ) → Rows js → (set b : ℕ) → 64 ≤ b → reaches (senior js) set b ≡ false
unfolding reaches at_least
reaches_past js rows set b l =
    any_fails 64 _ (λ a m. and_fails_r _ _ (or_fails _ _ (ne_eqb a b (omega arith)) (junior_past js rows a b l)))

-- ---- the list of a relation
get_d_tab_from : (i w : ℕ) (f : ℕ → ℕ) (n : ℕ) → n < w → get_or (tab_from i w f) n 0 ≡ f (i + n)
unfolding tab_from
get_d_tab_from i zero f n l = absurd (not-suc-le-zero l)
get_d_tab_from i (suc w) f zero l = ap f (sym (add-zero i))
get_d_tab_from i (suc w) f (suc n) l =
    get_d_tab_from (suc i) w f n (le_of_suc-le-suc l) ∙ ap f (suc-add i n ∙ sym (add-suc i n))

length-tab_from : (i w : ℕ) (f : ℕ → ℕ) → length (tab_from i w f) ≡ w
unfolding tab_from
length-tab_from i zero f = refl
length-tab_from i (suc w) f = ap suc (length-tab_from (suc i) w f)

pub length-relate : (w : ℕ) (f : Relation) → length (relate w f) ≡ w
unfolding relate
length-relate w f = length-tab_from 0 w _

row_relate : (w : ℕ) (f : Relation) (a : ℕ) → a < w → get_or (relate w f) a 0 ≡ set_of w (f a)
unfolding relate
row_relate w f a l = get_d_tab_from 0 w (λ x. set_of w (f x)) a l ∙ ap (λ (x : ℕ). set_of w (f x)) (zero-add a)

pub senior-relate : (w : ℕ) (f : Relation) (a b : ℕ) → a < w → b < w → senior (relate w f) a b ≡ f a b
unfolding senior
senior-relate w f a b l m = ap (λ (s : ℕ). has s b) (row_relate w f a l) ∙ has-set_of w (f a) b m

pub rows_relate : (f : Relation) → Rows (relate 64 f)
rows_relate f a =
    ⊎_elim (λ l. subst (λ (s : ℕ). s < 2 ^ 64) (sym (row_relate 64 f a l)) (set_of_lt 64 (f a)))
    (λ l. subst (λ (s : ℕ). s < 2 ^ 64)
    (sym (get_or-eq_default (relate 64 f) 0 (subst (λ (w : ℕ). w ≤ a) (sym (length-relate 64 f)) l))) (omega arith))
    (lt_or_le a 64)

-- a pair of the list is one of the relation, between numbers below the width
pub record Related (w : ℕ) (f : Relation) (a b : ℕ) : Type 0 where
  pub first : a < w
  pub second : b < w
  pub pair : f a b ≡ true

pub in_relate : (w : ℕ) (f : Relation) (a b : ℕ) → senior (relate w f) a b ≡ true → Related w f a b
unfolding senior
in_relate w f a b e =
    let l : a < w = subst (λ (n : ℕ). a < n) (length-relate w f) (senior_row (relate w f) a b e) in
    let m = in_set_of w (f a) b (ap (λ (s : ℕ). has s b) (sym (row_relate w f a l)) ∙ e) in
    record { first = l; second = m.0; pair = m.1 }

-- where the pairs of f stand between roles in use, the list has just them
pub same_relate : (f : Relation) (used : ℕ) → used < 2 ^ 64 → InUse used f → (a b : ℕ) → senior (relate 64 f) a b ≡ f a b
same_relate f used l h a b =
    by_test (f a b)
    (λ t. senior-relate 64 f a b (has_below 64 used a l (h.above a b t)) (has_below 64 used b l (h.below a b t)))
    (λ t. not_so _ (λ s. clash (in_relate 64 f a b s).pair t) ∙ sym t)

-- ---- a list with the pairs of f is the list of f
pub pairs_is : (r : List ℕ) (f : Relation) → length r ≡ 64 → Rows r → Pairs r f → r ≡ relate 64 f
unfolding senior
pairs_is r f e rows h =
    ext_get_or 0 r (relate 64 f) (e ∙ sym (length-relate 64 f))
    (λ a l. exactly_is 64 (get_or r a 0) (f a) (rows a) (λ b. h.pair a b (omega arith)) ∙ sym (row_relate 64 f a (omega arith)))

-- so `Pairs` leaves one order
pub pairs_one : (r s : List ℕ) (f : Relation) → length r ≡ 64 → length s ≡ 64 → Rows r → Rows s → Pairs r f → Pairs s f → r ≡ s
pairs_one r s f er es hr hs pr ps = pairs_is r f er hr pr ∙ sym (pairs_is s f es hs ps)

-- ---- one row replaced by v: it holds what f says of a, and the other rows what f says of them
module _ (js : List ℕ) (a v : ℕ) (f : Relation) (h : a < length js) (here : Exactly v (f a))
    (other : (x y : ℕ) → x < 64 → (x ≡ a → ⊥) → senior js x y ≡ f x y) where
  off : (x y : ℕ) → x < 64 → (x ≡ a → ⊥) → senior (set js a v) x y ≡ f x y
  unfolding senior
  off x y l n = ap (λ (s : ℕ). has s y) (get_or-set_other js a x v 0 n) ∙ other x y l n

  on : (x y : ℕ) → x ≡ a → senior (set js a v) x y ≡ f x y
  unfolding senior
  on x y e =
      subst (λ (z : ℕ). has (get_or (set js a v) z 0) y ≡ f z y) (sym e)
      (ap (λ (s : ℕ). has s y) (get_or-set_same js a v 0 h) ∙ here y)

  pub pairs_set : Pairs (set js a v) f
  pairs_set = record {
    pair = λ x y l.
        ⊎_elim (λ m. off x y l (omega arith))
        (λ m. ⊎_elim (λ e. on x y (sym e)) (λ n. off x y l (omega arith)) (eq-or-lt_of_le m)) (lt_or_le x a);
  }

-- so the list with that row replaced is the list of f
pub set-relate : (js : List ℕ) (a v : ℕ) (f : Relation) → length js ≡ 64 → Rows js → a < 64 → v < 2 ^ 64 → Exactly v (f a)
    → ((x y : ℕ) → x < 64 → (x ≡ a → ⊥) → senior js x y ≡ f x y) → set js a v ≡ relate 64 f
set-relate js a v f e rows l m here other =
    pairs_is (set js a v) f (length-set js a v ∙ e) rows_set (pairs_set js a v f (subst (λ (n : ℕ). a < n) (sym e) l) here other)
  where
    rows_set : Rows (set js a v)
    rows_set x =
        ⊎_elim (λ k. off_row x (omega arith))
        (λ k. ⊎_elim (λ q. subst (λ (z : ℕ). get_or (set js a v) z 0 < 2 ^ 64) q
        (subst (λ (z : ℕ). z < 2 ^ 64) (sym (get_or-set_same js a v 0 (subst (λ (n : ℕ). a < n) (sym e) l))) m))
        (λ q. off_row x (omega arith)) (eq-or-lt_of_le k)) (lt_or_le x a)
      where
        off_row : (x : ℕ) → (x ≡ a → ⊥) → get_or (set js a v) x 0 < 2 ^ 64
        off_row x n = subst (λ (z : ℕ). z < 2 ^ 64) (sym (get_or-set_other js a x v 0 n)) (rows x)

-- ---- the test of the code
-- what `lacks_one` finds is the second half of `faulty`
pub lacks_faulty : (js : List ℕ) (a : ℕ)
    → any 64 (λ b. has (get_or js a 0) b and neg (subset 64 (get_or js b 0) (get_or js a 0)))
    ≡ any 64 (λ b. senior js a b and any 64 (λ c. senior js b c and neg (senior js a c)))
unfolding senior
lacks_faulty js a = any_same 64 _ _ (λ b l. ap (λ (t : Bool). has (get_or js a 0) b and t) (subset_lacks 64 (get_or js b 0) (get_or js a 0)))

module _ (js : List ℕ) (rows : Rows js) (short : length js ≤ 64) where
  sound : (a : ℕ) → faulty (senior js) a ≡ false → (b c : ℕ) → senior js a b ≡ true → senior js b c ≡ true → senior js a c ≡ true
  unfolding faulty
  sound a e b c s t =
      neg_false (senior js a c) (not_so _ (λ n. clash
      (and_i _ _ t n)
      (any_none 64 _ (not_so _ (λ q. clash (and_i _ _ s q) (any_none 64 _ (or_fails_r _ _ e) b (junior_below js rows a b s))))
      c (junior_below js rows b c t))))

  fine : first_fault js ≡ length js → (a : ℕ) → a < length js → faulty (senior js) a ≡ false
  unfolding first_fault
  fine e a l = least_below (length js) (faulty (senior js)) a (subst (λ (n : ℕ). a < n) (sym e) l)

  -- no fault is found exactly if the order is strict
  pub no_fault_strict : first_fault js ≡ length js → Strict (senior js)
  unfolding faulty
  no_fault_strict e =
      record {
        irreflexive = λ a. not_so _ (λ s. clash s (or_fails_l _ _ (fine e a (senior_row js a a s))));
        transitive = λ a b c s t. sound a (fine e a (senior_row js a b s)) b c s t;
      }

  -- what is found at a is a junior of a junior that a lacks
  found : Strict (senior js) → (a b : ℕ) → (senior js a b and any 64 (λ c. senior js b c and neg (senior js a c))) ≡ true → ⊥
  found h a b s =
      let r = any_at 64 _ (and_r _ _ s) in
      clash (h.transitive a b r.0 (and_l _ _ s) (and_l _ _ r.2)) (neg_e _ (and_r _ _ r.2))

  pub strict_no_fault : Strict (senior js) → first_fault js ≡ length js
  unfolding faulty first_fault
  strict_no_fault h =
      sym (least_is (length js) _ (length js) (omega arith) (λ l. absurd (omega arith))
      (λ a l. or_fails _ _ (h.irreflexive a) (any_fails 64 _ (λ b m. not_so _ (found h a b)))))
