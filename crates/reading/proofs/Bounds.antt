-- Where the reading of a file ends, and what its refusals are.
-- Assumes nothing.
use Prim.Native.Nat.{ℕ, ◌<◌, ◌≤◌}
use mathlib.Core.Path.{◌≡◌, refl}
use mathlib.Core.Bool.{Bool, true, false}
use mathlib.Core.List.{List}
use native.Mathlib.Omega.{arith}
use borrow.Author.Tests.{eqb-false}
use lib.Dec.{ltb, eqb}
use lib.ListN.{length}
use Rattle.sets.specs.Tests.{pick}
use Rattle.number.specs.Run.{go, stop}
use Rattle.sections.specs.Sections.{all_below}
use Rattle.sections.proofs.Bounds.{NumWithin, Within, within_go, within_stop, within_num, within_step}
use Rattle.sections.proofs.Bounds.{tested-within, order_within, people-within, members-within}
use Rattle.rows.proofs.Bounds.{table-within, ranges-within, table_some, ranges_some}
use Rattle.faults.specs.Faults.{fault}
use Rattle.faults.proofs.Means.{fault_number}
use Rattle.reading.specs.File.{Front}
use Rattle.reading.specs.declared.Places.{Places}
use Rattle.reading.specs.File.{one_at, front_at, Rest, rest_at, file, judge, file_at}
use Rattle.reading.proofs.Right.{FrontSteps, RestSteps}

module _ (s : List ℕ) where
  one_within : {at : ℕ} → at ≤ length s → NumWithin (length s) at (one_at s at)
  unfolding one_at
  one_within h = tested-within s h (λ x. eqb x 1)

  pub front-within : Within (length s) 0 (front_at s 0)
  unfolding front_at
  front-within =
      within_num _ _ (one_within (omega arith)) (λ one a q k l.
      within_step _ _ (order_within s (all_below 64) l) (λ b roles r m n.
      within_step _ _ (order_within s (all_below 16) n) (λ c admins t o p.
      within_step _ _ (people-within s roles.used admins.used p) (λ d people u v w.
      within_step _ _ (members-within s roles.used w) (λ e permissions x y z. within_go (omega arith) z)))))

  module _ (roles admins : ℕ) where
    pub rest-within : {a : ℕ} → a ≤ length s → Within (length s) a (rest_at s roles admins a)
    unfolding rest_at
    rest-within h =
        within_step _ _ (table-within s true roles admins h) (λ b assign q k l.
        within_step _ _ (table-within s false roles admins l) (λ c revoke r m n.
        within_step _ _ (table-within s true roles admins n) (λ d assignp t o p.
        within_step _ _ (table-within s false roles admins p) (λ e revokep u v w.
        within_step _ _ (ranges-within s roles admins w) (λ end modify x y z. within_go (omega arith) z)))))

  judge-within : (end : ℕ) (f : Front) (r : Rest) → end ≤ length s → Within (length s) end (judge s end f r)
  unfolding judge
  judge-within end f r h = by (ltb end (length s)) (eqb n 0) refl
    where
      n : ℕ
      n = fault f.orders r.modify

      by : (t u : Bool) → eqb n 0 ≡ u → Within (length s) end (pick t (stop 27 end) (pick u (go end (file f r)) (stop n 0)))
      by true u e = within_stop (record { low = omega arith; high = omega arith; place = h })
      by false true e = within_go (omega arith) h
      by false false e =
          let k = fault_number f.orders r.modify (eqb-false n 0 e) in
          within_stop (record { low = omega (arith, k); high = omega (arith, k); place = omega arith })

  pub file_within : Within (length s) 0 (file_at s)
  unfolding file_at
  file_within =
      within_step _ _ front-within (λ at f q k l.
      within_step _ _ (rest-within f.orders.roles.used f.orders.admins.used l) (λ end r t m n. judge-within end f r n))

-- ---- where the tables stand: one after the other, each with a byte at least
pub record Placed (s : List ℕ) (p : Places) : Type 0 where
  pub assign : p.assign < p.revoke
  pub revoke : p.revoke < p.assignp
  pub assignp : p.assignp < p.revokep
  pub revokep : p.revokep < p.modify
  pub modify : p.modify < p.end
  pub end : p.end ≤ length s

pub rest_placed : (s : List ℕ) {roles admins a end : ℕ} {r : Rest} → a ≤ length s → RestSteps s roles admins a end r → Placed s r.places
rest_placed s {roles} {admins} h k =
    let a = rw (← k.start) at h in
    let b = ((table-within s true roles admins a).ends _ _ k.assign).1 in
    let c = ((table-within s false roles admins b).ends _ _ k.revoke).1 in
    let d = ((table-within s true roles admins c).ends _ _ k.assignp).1 in
    let e = ((table-within s false roles admins d).ends _ _ k.revokep).1 in
    record {
      assign = table_some s true roles admins a k.assign;
      revoke = table_some s false roles admins b k.revoke;
      assignp = table_some s true roles admins c k.assignp;
      revokep = table_some s false roles admins d k.revokep;
      modify = ranges_some s roles admins e k.modify;
      end = ((ranges-within s roles admins e).ends _ _ k.modify).1;
    }

pub front_end : (s : List ℕ) {e : ℕ} {f : Front} → FrontSteps s e f → e ≤ length s
front_end s {e} {f} k =
    let a = ((one_within s {at = 0} (omega arith)).ends _ _ k.one.1).1 in
    let b = ((order_within s (all_below 64) a).ends _ _ k.roles).1 in
    let c = ((order_within s (all_below 16) b).ends _ _ k.admins).1 in
    let d = ((people-within s _ _ c).ends _ _ k.people).1 in
    ((members-within s _ d).ends _ _ k.permissions).1
