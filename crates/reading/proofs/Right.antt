-- What was read, where nothing was refused.
-- Assumes nothing.
use Prim.Native.Nat.{ℕ, ◌≤◌}
use mathlib.Core.Path.{◌≡◌, refl}
use mathlib.Core.Bool.{Bool, true, false}
use mathlib.Core.List.{List}
use native.Mathlib.Omega.{arith}
use borrow.Author.Tests.{ltb-false, eqb-true}
use lib.Dec.{ltb, eqb}
use lib.ListN.{length}
use Rattle.sets.specs.Tests.{pick}
use Rattle.order.specs.declared.Order.{Order}
use Rattle.policy.specs.declared.Members.{Members}
use Rattle.policy.specs.declared.People.{People}
use Rattle.policy.specs.declared.Table.{Table}
use Rattle.policy.specs.declared.Ranges.{Ranges}
use Rattle.number.specs.Run.{go, stop}
use Rattle.number.specs.Number.{Value}
use Rattle.number.proofs.Runs.{on_num_lem, on_step_lem}
use Rattle.sections.specs.Sections.{all_below, order_at, people_at, members_at}
use Rattle.sections.proofs.Right.{OrderRight, order_right, PeopleRight, people_right, MembersRight, members_right}
use Rattle.rows.specs.Rows.{table_at, ranges_at}
use Rattle.rows.proofs.Right.{TableRight, table_right, RangesRight, ranges_right}
use Rattle.faults.specs.Faults.{fault}
use Rattle.reading.specs.File.{Front}
use Rattle.reading.specs.declared.File.{File}
use Rattle.reading.specs.File.{one_at, front, front_at, Rest, rest, places, rest_at, file, judge, file_at}

-- ---- before the tables

-- the sections, each from where the one before it ends
pub record FrontSteps (s : List ℕ) (e : ℕ) (f : Front) : Type 0 where
  pub first : ℕ
  pub second : ℕ
  pub third : ℕ
  pub fourth : ℕ
  pub one : (x : ℕ) × (one_at s 0 ≡ Value x first)
  pub roles : order_at s (all_below 64) first ≡ go second f.orders.roles
  pub admins : order_at s (all_below 16) second ≡ go third f.orders.admins
  pub people : people_at s f.orders.roles.used f.orders.admins.used third ≡ go fourth f.people
  pub permissions : members_at s f.orders.roles.used fourth ≡ go e f.permissions

pub front_steps : (s : List ℕ) {e : ℕ} {f : Front} → front_at s 0 ≡ go e f → FrontSteps s e f
unfolding front_at
front_steps s {e} {f} q =
    let one = on_num_lem (one_at s 0) _ q in
    let r = on_step_lem (order_at s (all_below 64) one.1) _ one.3 in
    let a = on_step_lem (order_at s (all_below 16) r.0) _ r.3 in
    let u = on_step_lem (people_at s r.1.used a.1.used a.0) _ a.3 in
    let p = on_step_lem (members_at s r.1.used u.0) _ u.3 in
    with_ends one.2 r.2 a.2 u.2 p.2 p.3
  where
    with_ends : {x a b c d k : ℕ} {roles admins : Order} {people : People} {permissions : Members}
        → one_at s 0 ≡ Value x a → order_at s (all_below 64) a ≡ go b roles
        → order_at s (all_below 16) b ≡ go c admins → people_at s roles.used admins.used c ≡ go d people
        → members_at s roles.used d ≡ go k permissions
        → go k (front roles admins people permissions) ≡ go e f → FrontSteps s e f
    with_ends {x} {a} {b} {c} {d} {k} {roles} {admins} {people} {permissions} one ro ad pe me q =
        let z : front roles admins people permissions ≡ f = cc in
        let y : k ≡ e = cc in
        rw (← z, ← y)
        (record { first = a; second = b; third = c; fourth = d; one = (x, one); roles = ro; admins = ad; people = pe; permissions = me })

pub record FrontRight (f : Front) : Type 0 where
  pub roles : OrderRight 64 f.orders.roles
  pub admins : OrderRight 16 f.orders.admins
  pub people : PeopleRight f.orders.roles.used f.orders.admins.used f.people
  pub permissions : MembersRight f.orders.roles.used f.permissions

pub front_right : (s : List ℕ) {e : ℕ} {f : Front} → FrontSteps s e f → FrontRight f
front_right s {e} {f} k =
    record {
      roles = order_right s 64 k.first (omega arith) k.roles;
      admins = order_right s 16 k.second (omega arith) k.admins;
      people = people_right s _ _ k.third k.people;
      permissions = members_right s _ k.fourth k.permissions;
    }

-- ---- the tables

-- the tables, each from where the one before it ends
pub record RestSteps (s : List ℕ) (roles admins a end : ℕ) (r : Rest) : Type 0 where
  pub start : r.places.assign ≡ a
  pub assign : table_at s true roles admins r.places.assign ≡ go r.places.revoke r.tables.assign
  pub revoke : table_at s false roles admins r.places.revoke ≡ go r.places.assignp r.tables.revoke
  pub assignp : table_at s true roles admins r.places.assignp ≡ go r.places.revokep r.tables.assignp
  pub revokep : table_at s false roles admins r.places.revokep ≡ go r.places.modify r.tables.revokep
  pub modify : ranges_at s roles admins r.places.modify ≡ go r.places.end r.modify
  pub stop : r.places.end ≡ end

pub rest_steps : (s : List ℕ) (roles admins a : ℕ) {end : ℕ} {r : Rest} → rest_at s roles admins a ≡ go end r → RestSteps s roles admins a end r
unfolding rest_at
rest_steps s roles admins a {end} {r} q =
    let t = on_step_lem (table_at s true roles admins a) _ q in
    let u = on_step_lem (table_at s false roles admins t.0) _ t.3 in
    let v = on_step_lem (table_at s true roles admins u.0) _ u.3 in
    let w = on_step_lem (table_at s false roles admins v.0) _ v.3 in
    let m = on_step_lem (ranges_at s roles admins w.0) _ w.3 in
    with_ends t.2 u.2 v.2 w.2 m.2 m.3
  where
    with_ends : {b c d e k : ℕ} {assign revoke assignp revokep : Table} {modify : Ranges} → table_at s true roles admins a ≡ go b assign
        → table_at s false roles admins b ≡ go c revoke → table_at s true roles admins c ≡ go d assignp
        → table_at s false roles admins d ≡ go e revokep → ranges_at s roles admins e ≡ go k modify
        → go k (rest assign revoke assignp revokep modify (places a b c d e k)) ≡ go end r
        → RestSteps s roles admins a end r
    with_ends {b} {c} {d} {e} {k} {assign} {revoke} {assignp} {revokep} {modify} ta tr tp tq tm q =
        let z : rest assign revoke assignp revokep modify (places a b c d e k) ≡ r = cc in
        let y : k ≡ end = cc in
        rw (← z, ← y)
        (record { start = refl; assign = ta; revoke = tr; assignp = tp; revokep = tq; modify = tm; stop = refl })

pub record RestRight (roles admins : ℕ) (r : Rest) : Type 0 where
  pub assign : TableRight true roles admins r.tables.assign
  pub revoke : TableRight false roles admins r.tables.revoke
  pub assignp : TableRight true roles admins r.tables.assignp
  pub revokep : TableRight false roles admins r.tables.revokep
  pub modify : RangesRight roles admins r.modify

pub rest_right : (s : List ℕ) {roles admins a end : ℕ} {r : Rest} → RestSteps s roles admins a end r → RestRight roles admins r
rest_right s {roles} {admins} k =
    record {
      assign = table_right s true roles admins _ k.assign;
      revoke = table_right s false roles admins _ k.revoke;
      assignp = table_right s true roles admins _ k.assignp;
      revokep = table_right s false roles admins _ k.revokep;
      modify = ranges_right s roles admins _ k.modify;
    }

-- ---- the whole
pub record Judged (s : List ℕ) (end : ℕ) (f : Front) (r : Rest) (e : ℕ) (x : File) : Type 0 where
  pub is : x ≡ file f r
  pub place : e ≡ end
  pub over : length s ≤ end
  pub faultless : fault f.orders r.modify ≡ 0

pub judge_gone : (s : List ℕ) (end : ℕ) (f : Front) (r : Rest) {e : ℕ} {x : File} → judge s end f r ≡ go e x → Judged s end f r e x
unfolding judge
judge_gone s end f r {e} {x} q = by (ltb end (length s)) refl (eqb n 0) refl q
  where
    n : ℕ
    n = fault f.orders r.modify

    by : (t : Bool) → ltb end (length s) ≡ t → (u : Bool) → eqb n 0 ≡ u
        → pick t (stop 27 end) (pick u (go end (file f r)) (stop n 0)) ≡ go e x → Judged s end f r e x
    by true et u eu q = absurd (let z : ◌≡◌ {A = ℕ} 0 1 = cc in omega arith)
    by false et true eu q = record { is = cc; place = cc; over = ltb-false end (length s) et; faultless = eqb-true n 0 eu }
    by false et false eu q = absurd (let z : ◌≡◌ {A = ℕ} 0 1 = cc in omega arith)

-- what was read of a file that was accepted
pub record Whole (s : List ℕ) (e : ℕ) (x : File) : Type 0 where
  pub front : Front
  pub rest : Rest
  pub at : ℕ
  pub end : ℕ
  pub front_steps : FrontSteps s at front
  pub rest_steps : RestSteps s front.orders.roles.used front.orders.admins.used at end rest
  pub judged : Judged s end front rest e x

pub file_whole : (s : List ℕ) {e : ℕ} {x : File} → file_at s ≡ go e x → Whole s e x
unfolding file_at
file_whole s {e} {x} q =
    let f = on_step_lem (front_at s 0) _ q in
    let r = on_step_lem (rest_at s f.1.orders.roles.used f.1.orders.admins.used f.0) _ f.3 in
    record {
      front = f.1;
      rest = r.1;
      at = f.0;
      end = r.0;
      front_steps = front_steps s f.2;
      rest_steps = rest_steps s _ _ f.0 r.2;
      judged = judge_gone s r.0 f.1 r.1 r.3;
    }
