-- When a file is refused, and with which number: exactly if RefusedBy of specs/Refusals.antt says so.
-- 20 to 22 by the first number in reading order that fails, then 27, then 23 to 26.
-- Assumes nothing.
use Prim.Native.Nat.{ℕ}
use mathlib.Core.Path.{◌≡◌, refl, sym, ◌∙◌}
use mathlib.Core.Bool.{Bool, true, false}
use mathlib.Core.List.{List}
use borrow.Author.Tests.{eqb-false, ne_eqb, ltb-true, ltb-false, lt-ltb, le-ltb}
use lib.Dec.{eqb, ltb}
use lib.ListN.{length}
use Rattle.sets.specs.Tests.{◌and◌, ◌or◌, neg, pick}
use Rattle.policy.specs.declared.Orders.{Orders}
use Rattle.policy.specs.declared.Ranges.{Ranges}
use Rattle.policy.specs.Outcome.{Refusals, accept, refuse}
use Rattle.policy.proofs.FirstLaws.{names as has_number, distinct, leads, first_leads}
use Rattle.number.specs.Run.{go, stop}
use Rattle.faults.specs.Faults.{not_strict, some_low, some_open, two_overlap, fault}
use Rattle.reading.specs.File.{Front}
use Rattle.reading.specs.File as how
use Rattle.reading.specs.File.{front_at, Rest, rest_at, file, judge, file_at, read_policy}
use Rattle.reading.proofs.Theorems.{of_refused}
use Rattle.trips.specs.Refusals.{RefusedBy, first_number, in_roles, in_admins, in_users, in_permissions}
use Rattle.trips.specs.Refusals.{in_assign, in_revoke, in_assignp, in_revokep, in_modify, left_over, at_fault}
use Rattle.trips.specs.Refusals.{roles_of, admins_of}
use Rattle.trips.proofs.Stops.{not_stopped, num_stopped, step_stopped}
use Rattle.trips.proofs.FailsNumbers.{first_refused}
use Rattle.trips.proofs.FailsSections.{order_refused, people-refused, members-refused}
use Rattle.trips.proofs.FailsRows.{table_at-refused, ranges-refused}

module _ (s : List ℕ) where
  -- ---- from what failed to the refusal
  module _ {c p : ℕ} where
    -- the whole file
    file_of : file_at s ≡ stop c p → (read_policy s).how ≡ how.Refused c p
    unfolding read_policy
    file_of q = rw q

    -- a number before the tables
    front_of : front_at s 0 ≡ stop c p → (read_policy s).how ≡ how.Refused c p
    unfolding file_at
    front_of q = file_of (rw q)

    -- a number in the tables
    rest_of : {a : ℕ} {f : Front} → front_at s 0 ≡ go a f → rest_at s (roles_of f) (admins_of f) a ≡ stop c p
        → (read_policy s).how ≡ how.Refused c p
    unfolding file_at
    rest_of q t = file_of (rw (q, t))

  -- what leads to a refusal gives it, with that number and place
  pub refused_if : {c p : ℕ} → RefusedBy s c p → (read_policy s).how ≡ how.Refused c p
  unfolding file_at judge front_at rest_at
  refused_if (first_number f) = let v = (first_refused s _).1 f in front_of (rw v)
  refused_if (in_roles q f) = let v = (order_refused s _ _).1 f in front_of (rw (q, v))
  refused_if (in_admins q t f) = let v = (order_refused s _ _).1 f in front_of (rw (q, t, v))
  refused_if (in_users q t u f) = let v = (people-refused s _ _ _).1 f in front_of (rw (q, t, u, v))
  refused_if (in_permissions q t u w f) = let v = (members-refused s _ _).1 f in front_of (rw (q, t, u, w, v))
  refused_if (in_assign q f) = let v = (table_at-refused s _ _ _ _).1 f in rest_of q (rw v)
  refused_if (in_revoke q t f) = let v = (table_at-refused s _ _ _ _).1 f in rest_of q (rw (t, v))
  refused_if (in_assignp q t u f) = let v = (table_at-refused s _ _ _ _).1 f in rest_of q (rw (t, u, v))
  refused_if (in_revokep q t u w f) = let v = (table_at-refused s _ _ _ _).1 f in rest_of q (rw (t, u, w, v))
  refused_if (in_modify q t u w x f) = let v = (ranges-refused s _ _ _).1 f in rest_of q (rw (t, u, w, x, v))
  refused_if (left_over q t l c p) = file_of (rw (q, t, lt-ltb _ _ l, c, p))
  refused_if (at_fault q t l c n p) = file_of (rw (q, t, le-ltb _ _ l, ne_eqb _ _ (λ z. n (c ∙ z)), c, p))

  -- ---- from the refusal to what failed
  module _ {c p : ℕ} where
    -- which number before the tables it is
    before_tables : front_at s 0 ≡ stop c p → RefusedBy s c p
    unfolding front_at
    before_tables q =
        num_stopped _ _ q (λ r. first_number ((first_refused s _).0 r)) (λ one a v q.
        step_stopped _ _ q (λ r. in_roles v ((order_refused s _ _).0 r)) (λ b roles w q.
        step_stopped _ _ q (λ r. in_admins v w ((order_refused s _ _).0 r)) (λ d admins u q.
        step_stopped _ _ q (λ r. in_users v w u ((people-refused s _ _ _).0 r)) (λ e users x q.
        step_stopped _ _ q (λ r. in_permissions v w u x ((members-refused s _ _).0 r)) (λ end m y q. not_stopped q)))))

    -- which number in the tables it is
    in_tables : {a : ℕ} {f : Front} → front_at s 0 ≡ go a f
        → rest_at s (roles_of f) (admins_of f) a ≡ stop c p → RefusedBy s c p
    unfolding rest_at
    in_tables w q =
        step_stopped _ _ q (λ r. in_assign w ((table_at-refused s _ _ _ _).0 r)) (λ b t v q.
        step_stopped _ _ q (λ r. in_revoke w v ((table_at-refused s _ _ _ _).0 r)) (λ d u x q.
        step_stopped _ _ q (λ r. in_assignp w v x ((table_at-refused s _ _ _ _).0 r)) (λ e o y q.
        step_stopped _ _ q (λ r. in_revokep w v x y ((table_at-refused s _ _ _ _).0 r)) (λ g n z q.
        step_stopped _ _ q (λ r. in_modify w v x y z ((ranges-refused s _ _ _).0 r)) (λ end m k q. not_stopped q)))))

    -- 27, and 23 to 26
    judged_by : {at end : ℕ} {f : Front} {r : Rest} → front_at s 0 ≡ go at f
        → rest_at s (roles_of f) (admins_of f) at ≡ go end r → judge s end f r ≡ stop c p → RefusedBy s c p
    unfolding judge
    judged_by {at} {end} {f} {r} q t e = by (ltb end (length s)) refl (eqb n 0) refl e
      where
        n : ℕ
        n = fault f.orders r.modify

        by : (b : Bool) → ltb end (length s) ≡ b → (d : Bool) → eqb n 0 ≡ d
            → pick b (stop 27 end) (pick d (go end (file f r)) (stop n 0)) ≡ stop c p → RefusedBy s c p
        by true x d y e = left_over q t (ltb-true end (length s) x) (cc) (cc)
        by false x true y e = not_stopped e
        by false x false y e =
            let z : c ≡ n = cc in
            at_fault q t (ltb-false end (length s) x) z (λ w. eqb-false n 0 y (sym z ∙ w)) (cc)

  -- and every refusal has been led to so
  pub refused_by : {c p : ℕ} → (read_policy s).how ≡ how.Refused c p → RefusedBy s c p
  unfolding read_policy file_at
  refused_by q =
      step_stopped _ _ (of_refused (file_at s) q) before_tables (λ at f w q.
      step_stopped _ _ q (in_tables w) (λ end r t q. judged_by w t q))

-- ---- 23 to 26: "23 either order not strict; 24 a can-modify low not junior to high; 25 a range not encapsulated;
-- 26 two overlap in part"
module _ (o : Orders) (m : Ranges) where
  abbrev rules : Refusals
  rules =
      refuse (not_strict o.roles or not_strict o.admins) 23
      (refuse (some_low o.roles m) 24 (refuse (some_open o.roles m) 25 (refuse (two_overlap o.roles m) 26 accept)))

  rules_distinct : distinct rules ≡ true
  unfolding distinct has_number ◌and◌ ◌or◌ neg
  rules_distinct = refl

  pub fault_strict : eqb (fault o m) 23 ≡ (not_strict o.roles or not_strict o.admins)
  unfolding fault has_number leads ◌or◌
  fault_strict = first_leads 23 rules rules_distinct refl

  pub fault_low : eqb (fault o m) 24 ≡ (neg (not_strict o.roles or not_strict o.admins) and some_low o.roles m)
  unfolding fault has_number leads ◌or◌
  fault_low = first_leads 24 rules rules_distinct refl

  pub fault_open : eqb (fault o m) 25
      ≡ (neg (not_strict o.roles or not_strict o.admins) and neg (some_low o.roles m) and some_open o.roles m)
  unfolding fault has_number leads ◌or◌
  fault_open = first_leads 25 rules rules_distinct refl

  pub fault-overlap : eqb (fault o m) 26
      ≡ (neg (not_strict o.roles or not_strict o.admins) and neg (some_low o.roles m)
      and neg (some_open o.roles m) and two_overlap o.roles m)
  unfolding fault has_number leads ◌or◌
  fault-overlap = first_leads 26 rules rules_distinct refl
