-- The listing, as the code makes it: what is accepted by kind, what is gathered, what is counted and what is written.
-- Assumes nothing.
use mathlib.Core.Path.{◌≡◌, refl, sym, ap, ap₂, ◌∙◌}
use mathlib.Core.Logic.{◌⊎◌, inl, inr}
use mathlib.Core.Bool.{Bool, true, false}
use mathlib.Core.List.{List, [], ◌++◌}
use Prim.Native.Nat.{ℕ, zero, suc, ◌+◌, ◌*◌, ◌/◌, ◌%◌, ◌<◌, ◌≤◌}
use native.Mathlib.Nat.{add-zero, zero-add}
use native.Mathlib.Omega.{arith}
use lib.Dec.{eqb, leb, ltb, lit<}
use lib.ListN.{length, get_or, length-append}
use borrow.Author.Tests.{eq-eqb, ne_eqb, eqb-true, eqb-false, le-leb, lt-leb, lt-ltb, le-ltb, ltb-false}
use Rattle.sets.specs.Tests.{◌and◌, ◌or◌, neg, pick}
use Rattle.sets.specs.Sets.{has, count, set_of, size, Exactly}
use Rattle.sets.proofs.Tests.{by_test, clash, and_i, and_l, and_given, and_fails_l, or_fails_l, or_fails_r, neg_i}
use Rattle.sets.proofs.Digits.{has_bit, has_empty}
use Rattle.sets.proofs.Quantifiers.{count_same, count_first, count_add}
use Rattle.sets.proofs.Builders.{set_of_is, set_of_same, has-set_of}
use Rattle.policy.specs.declared.Policy.{Policy}
use Rattle.policy.specs.Outcome.{first}
use Rattle.policy.proofs.Outcomes.{first_here}
use Rattle.hierarchy.specs.declared.Site.{Site}
use Rattle.order.specs.Rows.{Above}
use Rattle.order.specs.Order.{senior, comparable, edge}
use Rattle.hierarchy.specs.declared.HierarchyKind.{HierarchyKind}
use Rattle.hierarchy.specs.declared.HierarchyKind.TheVariants.{CreateRole, DeleteEdge}
use Rattle.hierarchy.specs.Kinds.{kind_number}
use Rattle.hierarchy.specs.Rules.{site, over, named, some_in, tied, tied_in, unknown_role, may_modify, delete_rules}
use Rattle.hierarchy.proofs.Laws.{known_role, known_first, known_second}
use Rattle.hierarchy.proofs.Accepted.{create_ok, delete_ok, insert_ok, cut_ok}
use Rattle.requests.specs.Requests.{ask, rules_of}
use Rattle.requests.proofs.Decided.{every_request}
use lib.Seq.{sets}
use Rattle.number.specs.Run.{each}
use Rattle.number.proofs.Puts.{Putting, put_room, put_step}
use Rattle.listing.specs.Listing.{accepts, place_count, listed_at, entry_count, entry, entries_of, entries_for}
use Rattle.listing.specs.Listing.{accepted_set, AcceptedRows, in_rows, listed, filled, ListingOf}
use Rattle.std.specs.Prelude.{Result, Ok, Err}
use Rattle.policy.specs.declared.Refusal.{Refusal}
use Rattle.policy.specs.declared.Refusal.TheVariants.{UnknownName, BufferTooShort}
use Rattle.listing.specs.Sites.{site_outcome, site_set, ToDo}

-- ---- acceptance by kind

-- 7 and 8 together say whether the role is tied
tied_refusals : (s : Site) (names members : Bool) (a b : ℕ)
    → eqb (first (delete_rules s (names or members) false a b)) 0 ≡ eqb (first (delete_rules s names members a b)) 0
unfolding delete_rules first ◌or◌
tied_refusals s true members a b = refl
tied_refusals s false true a b = by_ends (neg (eqb b 0)) (unknown_role s a) (neg (may_modify s 6 a b))
  where
    by_ends : (x y z : Bool) → eqb (pick x 1 (pick y 2 (pick z 3 (pick true 7 (pick false 8 0))))) 0
        ≡ eqb (pick x 1 (pick y 2 (pick z 3 (pick false 7 (pick true 8 0))))) 0
    by_ends true y z = refl
    by_ends false true z = refl
    by_ends false false true = refl
    by_ends false false false = refl
tied_refusals s false false a b = refl

module _ (p : Policy) (o a b : ℕ) where
  by_rules : (k : ℕ) → accepts p o k a b ≡ eqb (first (rules_of p (ask o k a b))) 0
  unfolding accepts
  by_rules k = ap (λ (n : ℕ). eqb n 0) (every_request p (ask o k a b)).outcome

  pub accepts_delete : accepts p o 6 a b ≡ eqb (first (delete_rules (site p o) (named p.tables p.modify a)
      (some_in p.people.users a or some_in p.permissions a) a b)) 0
  unfolding rules_of
  accepts_delete = by_rules 6

  -- kinds 5, 7 and 8 don't ask which roles are tied
  module _ (tied : ℕ) where
    pub accepts-create : accepts p o 5 a b ≡ eqb (site_outcome (site p o) tied 5 a b) 0
    unfolding rules_of site_outcome
    accepts-create = by_rules 5

    pub accepts-insert : accepts p o 7 a b ≡ eqb (site_outcome (site p o) tied 7 a b) 0
    unfolding rules_of site_outcome
    accepts-insert = by_rules 7

    pub accepts-cut : accepts p o 8 a b ≡ eqb (site_outcome (site p o) tied 8 a b) 0
    unfolding rules_of site_outcome
    accepts-cut = by_rules 8

    pub accepts-site : (k : ℕ) → 5 ≤ k → k < 9 → (k ≡ 6 → ⊥) → accepts p o k a b ≡ eqb (site_outcome (site p o) tied k a b) 0
    accepts-site k l m n =
        by_test (eqb k 5) (λ t. at 5 t accepts-create)
        (λ n5. by_test (eqb k 7) (λ t. at 7 t accepts-insert)
        (λ n7. at 8 (eq-eqb k 8 (eight (eqb-false k 5 n5) (eqb-false k 7 n7))) accepts-cut))
      where
        at : (c : ℕ) → eqb k c ≡ true → accepts p o c a b ≡ eqb (site_outcome (site p o) tied c a b) 0
            → accepts p o k a b ≡ eqb (site_outcome (site p o) tied k a b) 0
        at c t h = rw (eqb-true k c t) h

        eight : (k ≡ 5 → ⊥) → (k ≡ 7 → ⊥) → k ≡ 8
        eight n5 n7 = omega arith

  -- tied says of a what 7 and 8 say of it
  module _ (tied : ℕ) (e : has tied a ≡ tied_in p a) where
    accepts_tied : accepts p o 6 a b ≡ eqb (first (delete_rules (site p o) (has tied a) false a b)) 0
    unfolding Rattle.hierarchy.specs.Rules.tied
    accepts_tied =
        accepts_delete ∙ sym (tied_refusals (site p o) _ _ a b)
        ∙ ap (λ (x : Bool). eqb (first (delete_rules (site p o) x false a b)) 0) (sym e)

    accepts_site : (k : ℕ) → 5 ≤ k → k < 9 → accepts p o k a b ≡ eqb (site_outcome (site p o) tied k a b) 0
    unfolding site_outcome
    accepts_site k l m =
        by_test (eqb k 6) (λ t. rw (eqb-true k 6 t) accepts_tied) (λ n. accepts-site tied k l m (eqb-false k 6 n))

-- the rows that are gathered
pub site_rows : (p : Policy) (o j : ℕ) → j < 256 → site_set (site p o) (set_of 64 (tied_in p)) j ≡ accepted_set p o j
unfolding site_set accepted_set
site_rows p o j l =
    set_of_same 64 _ _
    (λ b h. sym (accepts_site p o (j % 64) b _ (has-set_of 64 (tied_in p) (j % 64) (omega arith)) (5 + j / 64) (omega arith) (omega arith)))

-- kind 6 with b not 0 gives 1: so the set of the b with which it is accepted is {0} or empty
module _ (s : Site) (names members : Bool) (a : ℕ) where
  only_zero : (b : ℕ) → eqb (first (delete_rules s names members a b)) 0 ≡ (eqb b 0 and eqb (first (delete_rules s names members a 0)) 0)
  unfolding delete_rules
  only_zero b =
      by_test (eqb b 0)
      (λ t. rw (eqb-true b 0 t) (sym (and_given _ _ refl)))
      (λ t. ap (λ (n : ℕ). eqb n 0) (sym (first_here _ 1 _ (neg_i _ t))) ∙ sym (and_fails_l _ _ t))

  -- m is the outcome with b 0
  module _ {m : ℕ} (e : m ≡ first (delete_rules s names members a 0)) where
    pub delete_one : m ≡ 0 → 1 ≡ set_of 64 (λ b. eqb (first (delete_rules s names members a b)) 0)
    delete_one z =
        set_of_is 64 1 _ (lit< tt) (λ b l. has_bit 0 b ∙ sym (only_zero b ∙ both b (eq-eqb _ 0 (sym e ∙ z))))
      where
        both : (b : ℕ) {t : Bool} → t ≡ true → (eqb b 0 and t) ≡ eqb b 0
        both b q = rw q (Rattle.sets.proofs.Tests.and_true _)

    pub delete_none : (m ≡ 0 → ⊥) → 0 ≡ set_of 64 (λ b. eqb (first (delete_rules s names members a b)) 0)
    delete_none z =
        set_of_is 64 0 _ (lit< tt) (λ b l. has_empty b ∙ sym (only_zero b ∙ Rattle.sets.proofs.Tests.and_fails_r _ _ (ne_eqb _ 0 (λ q. z (e ∙ q)))))

-- ---- the candidates: where a request would be accepted, there is something to do

-- a has to be in use, whatever number the kind has: where it is none of 5 to 7, the outcome is that of 8
pub first_used : (s : Site) (tied kind a b : ℕ) → site_outcome s tied kind a b ≡ 0 → has s.roles.used a ≡ true
unfolding site_outcome
first_used s tied kind a b e =
    by_test (eqb kind 5) (λ t. known_first s a b (create_ok s a b (rw t at e)).known)
    (λ n5. by_test (eqb kind 6) (λ t. known_role s a (delete_ok s _ _ a b (rw (n5, t) at e)).known)
    (λ n6. by_test (eqb kind 7) (λ t. known_first s a b (insert_ok s a b (rw (n5, n6, t) at e)).known)
    (λ n7. known_first s a b (cut_ok s a b (rw (n5, n6, n7) at e)).known)))

-- the sets that are tried
module _ (s : Site) (kind a : ℕ) where
  pub none_to_do : has s.roles.used a ≡ false → ToDo s kind a 0
  none_to_do n = record { each = λ tied b e. clash (first_used s tied kind a b e) n }

  -- all kinds but 6 and 7 ask for a senior to b
  pub juniors_to_do : (kind ≡ 6 → ⊥) → (kind ≡ 7 → ⊥) → {r : ℕ} → r ≡ get_or s.roles.juniors a 0 → ToDo s kind a r
  unfolding senior site_outcome edge
  juniors_to_do n6 n7 q = rw q (record {
    each = λ tied b e.
        by_test (eqb kind 5) (λ t. (create_ok s a b (rw t at e)).senior)
        (λ n5. and_l _ _ (cut_ok s a b (rw (n5, ne_eqb kind 6 n6, ne_eqb kind 7 n7) at e)).joined);
  })

module _ (s : Site) (a : ℕ) where
  -- kinds 5 and 8 by their names
  pub senior_to_do : (k : HierarchyKind) → (k ≡ CreateRole) ⊎ (k ≡ DeleteEdge) → ToDo s (kind_number k) a (get_or s.roles.juniors a 0)
  senior_to_do k (inl e) = rw e (juniors_to_do s 5 a (λ q. omega (arith, q)) (λ q. omega (arith, q)) refl)
  senior_to_do k (inr e) = rw e (juniors_to_do s 8 a (λ q. omega (arith, q)) (λ q. omega (arith, q)) refl)

  pub delete_to_do : ToDo s 6 a 1
  unfolding site_outcome
  delete_to_do = record { each = λ tied b e. has_bit 0 b ∙ (delete_ok s _ _ a b e).zero }

  -- of those in use what is neither junior nor senior to a
  pub insert_to_do : {seniors : List ℕ} → Above s.roles.juniors seniors → (y z : ℕ)
      → Exactly y (λ b. has s.roles.used b and neg (has (get_or s.roles.juniors a 0) b))
      → Exactly z (λ b. has y b and neg (has (get_or seniors a 0) b)) → ToDo s 7 a z
  unfolding senior comparable site_outcome
  insert_to_do above y z ey ez = record {
    each = λ tied b e.
        let ok = insert_ok s a b e in
        let apart = or_fails_r _ _ ok.apart in
        ez b ∙ and_i _ _ (ey b ∙ and_i _ _ (known_second s a b ok.known) (neg_i _ (or_fails_l _ _ apart)))
        (neg_i _ (above.seniors a b ∙ or_fails_r _ _ apart));
  }

-- ---- the count
-- a place of row j
in_row : (rows : List ℕ) (j b : ℕ) → b < 64 → in_rows rows (j * 64 + b) ≡ has (get_or rows j 0) b
unfolding in_rows
in_row rows j b l =
    let d : (j * 64 + b) / 64 ≡ j = omega arith in
    let m : (j * 64 + b) % 64 ≡ b = omega arith in
    rw (d, m)

pub total_turn : (rows : List ℕ) (j n s : ℕ) → n ≡ count (j * 64) (in_rows rows) → s ≡ size 64 (get_or rows j 0)
    → n + s ≡ count ((j + 1) * 64) (in_rows rows)
unfolding size
total_turn rows j n s e d =
    let k : (j + 1) * 64 ≡ j * 64 + 64 = omega arith in
    rw (k, e, d)
    (sym (count_add (j * 64) 64 (in_rows rows)
    ∙ ap (λ (x : ℕ). count (j * 64) (in_rows rows) + x) (count_same 64 _ _ (λ b l. in_row rows j b l))))

-- ---- what is gathered is what is listed
pub rows_listed : (p : Policy) (o : ℕ) (rows : List ℕ) → AcceptedRows p o rows → (i : ℕ) → i < place_count → in_rows rows i ≡ listed_at p o i
unfolding in_rows listed_at accepted_set
rows_listed p o rows g i l =
    let h : i / 64 < 256 = omega arith in
    let k : i / 64 / 64 ≡ i / 4096 = omega arith in
    ap (λ (s : ℕ). has s (i % 64)) (g.row (i / 64) h) ∙ has-set_of 64 _ (i % 64) (omega arith)
    ∙ ap (λ (x : ℕ). accepts p o (5 + x) (i / 64 % 64) (i % 64)) k

-- ---- the bytes
each_same : (f g : ℕ → List ℕ) (N : ℕ) → ((i : ℕ) → i < N → f i ≡ g i) → (n i : ℕ) → i + n ≤ N → each f n i ≡ each g n i
unfolding each
each_same f g N e zero i l = refl
each_same f g N e (suc n) i l = ap₂ ◌++◌ (e i (omega arith)) (each_same f g N e n (i + 1) (omega arith))

pub entries_same : (f g : ℕ → Bool) → ((i : ℕ) → i < place_count → f i ≡ g i) → entries_of f ≡ entries_of g
unfolding entries_of
entries_same f g e = each_same _ _ place_count (λ i l. ap (λ (b : Bool). pick b (entry i) []) (e i l)) place_count 0 (omega arith)

entry_length : (b : Bool) (i : ℕ) → length (pick b (entry i) []) ≡ 3 * pick b 1 0
entry_length true i = refl
entry_length false i = refl

-- the first place and those after it
count_from : (f : ℕ → Bool) (n i : ℕ) → count (suc n) (λ k. f (i + k)) ≡ pick (f i) 1 0 + count n (λ k. f (i + 1 + k))
count_from f n i =
    count_first n (λ k. f (i + k))
    ∙ ap₂ (λ (b : Bool) (x : ℕ). pick b 1 0 + x) (ap f (add-zero i)) (count_same n _ _ (λ k l. ap f (next k)))
  where
    next : (k : ℕ) → i + suc k ≡ i + 1 + k
    next k = omega arith

pub each_length : (f : ℕ → Bool) (n i : ℕ) → length (each (λ k. pick (f k) (entry k) []) n i) ≡ 3 * count n (λ k. f (i + k))
unfolding each count
each_length f zero i = refl
each_length f (suc n) i =
    let h = each_length f n (i + 1) in
    let e = count_from f n i in
    let d = entry_length (f i) i in
    length-append (pick (f i) (entry i) []) _ ∙ sum _ _ _ _ _ d h e
  where
    sum : (x y a b c : ℕ) → x ≡ 3 * a → y ≡ 3 * b → c ≡ a + b → x + y ≡ 3 * c
    sum x y a b c p q r = omega arith

pub entries_length : (f : ℕ → Bool) → length (entries_of f) ≡ 3 * count place_count f
unfolding entries_of
entries_length f = each_length f place_count 0 ∙ ap (λ (x : ℕ). 3 * x) (count_same place_count _ _ (λ k l. ap f (zero-add k)))

pub total_none : (rows : List ℕ) → 0 ≡ count (0 * 64) (in_rows rows)
unfolding count
total_none rows = refl

pub total_end : (rows : List ℕ) (j n : ℕ) → j ≤ 256 → 256 ≤ j → n ≡ count (j * 64) (in_rows rows) → n ≡ count place_count (in_rows rows)
total_end rows j n l m e = let d : j * 64 ≡ place_count = omega arith in e ∙ ap (λ (x : ℕ). count x (in_rows rows)) d

-- ---- the writing loop: f i is what stands for place i
abbrev pub wanted : List ℕ → ℕ → List ℕ
wanted rows i = pick (in_rows rows i) (entry i) []

module _ (rows o₀ o : List ℕ) (i at : ℕ) (k : Putting (wanted rows) place_count o₀ 0 i o at) (l : i < place_count) where
  here : in_rows rows i ≡ true → wanted rows i ≡ entry i
  here t = rw t

  pub put_fits : length (entries_of (in_rows rows)) ≤ length o₀ → in_rows rows i ≡ true → (at + 3 ≤ length o) × (i < place_count)
  unfolding entries_of
  put_fits r t = (omega (arith, put_room k l (rw zero-add r), ap length (here t)), l)

  pub put_one : in_rows rows i ≡ true → {o' : List ℕ} → o' ≡ sets o at (entry i) → Putting (wanted rows) place_count o₀ 0 (i + 1) o' (at + 3)
  put_one t e = put_step k l (here t) e refl

  pub put_skip : in_rows rows i ≡ false → Putting (wanted rows) place_count o₀ 0 (i + 1) o at
  put_skip t = put_step k l skip refl (sym (add-zero at))
    where
      skip : wanted rows i ≡ []
      skip = rw t

-- ---- the three ways out: n is the count that the code finds in the rows that it gathered
module _ (p : Policy) (o : ℕ) (out : List ℕ) where
  pub list_unknown : p.people.users.count ≤ o → ListingOf p o out (Err UnknownName) out
  unfolding listed filled
  list_unknown l = record { is = rw (le-leb _ _ l); bytes = rw (le-leb _ _ l) }

  module _ (l : o < p.people.users.count) {rows : List ℕ} (g : AcceptedRows p o rows) {n : ℕ} (e : n ≡ count place_count (in_rows rows)) where
    counted : n ≡ entry_count p o
    unfolding entry_count
    counted = e ∙ count_same place_count _ _ (λ i h. rows_listed p o rows g i h)

    bytes_are : entries_of (in_rows rows) ≡ entries_for p o
    unfolding entries_for
    bytes_are = entries_same _ _ (λ i h. rows_listed p o rows g i h)

    pub list_short : length out < 3 * n → ListingOf p o out (Err BufferTooShort) out
    unfolding listed filled
    list_short h = let k = rw counted at h in record { is = rw (lt-leb _ _ l, lt-ltb _ _ k); bytes = rw (lt-leb _ _ l, lt-ltb _ _ k) }

    pub list_room : 3 * n ≤ length out → length (entries_of (in_rows rows)) ≤ length out
    list_room h = rw (entries_length (in_rows rows), ← e) h

    pub list_entries : 3 * n ≤ length out → {after : List ℕ} → after ≡ sets out 0 (entries_of (in_rows rows)) → ListingOf p o out (Ok n) after
    unfolding listed filled
    list_entries h d =
        let k = rw counted at h in
        record { is = rw (lt-leb _ _ l, le-ltb _ _ k, counted); bytes = rw (lt-leb _ _ l, le-ltb _ _ k) (d ∙ ap (sets out 0) bytes_are) }

-- the entries that a listing gives fit the buffer
pub entries_fit : (p : Policy) (o room : ℕ) {n : ℕ} → listed p o room ≡ Ok n → 3 * n ≤ room
unfolding listed
entries_fit p o room {n} = by (leb p.people.users.count o) (ltb room (3 * entry_count p o)) refl
  where
    by : (s t : Bool) → ltb room (3 * entry_count p o) ≡ t
        → ◌≡◌ {A = Result ℕ Refusal} (pick s (Err UnknownName) (pick t (Err BufferTooShort) (Ok (entry_count p o)))) (Ok n) → 3 * n ≤ room
    by true t q e = absurd (cc)
    by false true q e = absurd (cc)
    by false false q e = let k : entry_count p o ≡ n = cc in omega (arith, ltb-false room (3 * entry_count p o) q)
