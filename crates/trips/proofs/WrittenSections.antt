-- The second round trip, section by section: a section that was read has exactly the bytes that it was read from.
-- Assumes nothing.
use Prim.Native.Nat.{ℕ, ◌<◌, ◌≤◌}
use mathlib.Core.Path.{◌≡◌, refl, ◌∙◌, ap, ap₂}
use mathlib.Core.Bool.{Bool, true, false}
use mathlib.Core.List.{List}
use native.Mathlib.Omega.{arith}
use lib.ListN.{length, get_or, set, replicate, length-set, length-replicate}
use lib.Seq.{get_or-set_same, get_or-set_other}
use Rattle.sets.specs.Tests.{pick}
use Rattle.sets.specs.Sets.{has}
use Rattle.order.specs.declared.Order.{Order}
use Rattle.policy.specs.declared.Members.{Members}
use Rattle.policy.specs.declared.People.{People}
use Rattle.number.specs.Number.{num_bytes}
use Rattle.number.specs.Run.{go, on_num}
use Rattle.number.specs.Number.{Value}
use Rattle.number.proofs.Runs.{on_num_lem, on_step_lem}
use Rattle.number.proofs.RunTrip.{Stepped, each_run}
use Rattle.sections.specs.Numbers.{set_at}
use Rattle.sections.specs.Sections.{junior_step, juniors_at, order_at, people, user_step, people_at, members, member_step, members_at}
use Rattle.layout.specs.Layout.{juniors_bytes, order_bytes, user_bytes, users_bytes, permissions_bytes}
use Rattle.layout.proofs.Lengths.{juniors_in, juniors_out}
use Rattle.trips.proofs.Exact.{Exact, exact_none, exact_next, set_exact, counted_exact}

module _ (s : List ℕ) (small : (k : ℕ) → get_or s k 0 < 256) where
  -- ---- permissions
  record MembersOk (n : ℕ) (m : Members) : Type 0 where
    count_is : m.count ≡ n
    long : length m.roles ≡ 256

  permission_bytes : Members → ℕ → List ℕ
  permission_bytes m i = num_bytes (get_or m.roles i 0)

  permission_step : (roles n : ℕ) → n ≤ 256 → (i at : ℕ) (m : Members) (next : ℕ) (b : Members) → i < n → at ≤ length s → MembersOk n m
      → member_step s roles i at m ≡ go next b → Stepped (MembersOk n) permission_bytes s i at m next b
  unfolding member_step permission_bytes
  permission_step roles n most i at m next b h l k q = let a = on_num_lem (set_at s roles at) _ q in done a.0 a.1 a.2 a.3
    where
      done : (x mid : ℕ) → set_at s roles at ≡ Value x mid → go mid (members m.count (set m.roles i x)) ≡ go next b
          → Stepped (MembersOk n) permission_bytes s i at m next b
      done x mid v r =
          let a = set_exact s small roles v in
          let z : members m.count (set m.roles i x) ≡ b = cc in
          let y : mid ≡ next = cc in
          rw (← z, ← y)
          (record {
            ok = record { count_is = k.count_is; long = length-set m.roles i x ∙ k.long };
            onward = a.onward;
            within = a.within;
            bytes = ap num_bytes (get_or-set_same m.roles i x 0 (omega (arith, k.long))) ∙ a.bytes;
            stays = λ j d. ap num_bytes (get_or-set_other m.roles i j x 0 (omega arith));
          })

  pub permissions_exact : (roles at : ℕ) {e : ℕ} {m : Members} → members_at s roles at ≡ go e m → Exact s at e (permissions_bytes m)
  unfolding members_at permissions_bytes permission_bytes
  permissions_exact roles at q =
      counted_exact s small (member_step s roles) MembersOk permission_bytes (λ m. m.count) 256 (λ n. members n (replicate 256 0))
      (λ n. record { count_is = refl; long = length-replicate {A = ℕ} 256 0 }) (λ n m k. k.count_is) (permission_step roles) at q

  -- ---- users
  record PeopleOk (n : ℕ) (p : People) : Type 0 where
    count_is : p.users.count ≡ n
    long : length p.users.roles ≡ 256
    wide : length p.offices ≡ 256

  user_bytes_lem : People → ℕ → List ℕ
  user_bytes_lem p i = user_bytes (get_or p.users.roles i 0) (get_or p.offices i 0)

  user_step_lem : (roles admins n : ℕ) → n ≤ 256 → (i at : ℕ) (p : People) (next : ℕ) (b : People) → i < n → at ≤ length s → PeopleOk n p
      → user_step s roles admins i at p ≡ go next b → Stepped (PeopleOk n) user_bytes_lem s i at p next b
  unfolding user_step user_bytes_lem user_bytes
  user_step_lem roles admins n most i at p next b h l k q =
      let a = on_num_lem (set_at s roles at) _ q in
      let c = on_num_lem (set_at s admins a.1) _ a.3 in
      done a.0 a.1 c.0 c.1 a.2 c.2 c.3
    where
      done : (x mid y past : ℕ) → set_at s roles at ≡ Value x mid → set_at s admins mid ≡ Value y past
          → go past (people p.users.count (set p.users.roles i x) (set p.offices i y)) ≡ go next b → Stepped (PeopleOk n) user_bytes_lem s i at p next b
      done x mid y past v u r =
          let a = exact_next (set_exact s small roles v) (set_exact s small admins u) in
          let z : people p.users.count (set p.users.roles i x) (set p.offices i y) ≡ b = cc in
          let e : past ≡ next = cc in
          rw (← z, ← e)
          (record {
            ok = record { count_is = k.count_is; long = length-set p.users.roles i x ∙ k.long; wide = length-set p.offices i y ∙ k.wide };
            onward = a.onward;
            within = a.within;
            bytes = ap₂ user_bytes (get_or-set_same p.users.roles i x 0 (omega (arith, k.long)))
                (get_or-set_same p.offices i y 0 (omega (arith, k.wide))) ∙ a.bytes;
            stays = λ j d. ap₂ user_bytes (get_or-set_other p.users.roles i j x 0 (omega arith)) (get_or-set_other p.offices i j y 0 (omega arith));
          })

  pub users_exact : (roles admins at : ℕ) {e : ℕ} {p : People} → people_at s roles admins at ≡ go e p → Exact s at e (users_bytes p)
  unfolding people_at users_bytes user_bytes_lem
  users_exact roles admins at q =
      counted_exact s small (user_step s roles admins) PeopleOk user_bytes_lem (λ p. p.users.count) 256 (λ n. people n (replicate 256 0) (replicate 256 0))
      (λ n. record { count_is = refl; long = length-replicate {A = ℕ} 256 0; wide = length-replicate {A = ℕ} 256 0 })
      (λ n p k. k.count_is) (user_step_lem roles admins) at q

  -- ---- an order
  junior_bytes : ℕ → List ℕ → ℕ → List ℕ
  junior_bytes used l a = juniors_bytes used a (get_or l a 0)

  record Long (l : List ℕ) : Type 0 where
    long : length l ≡ 64

  junior_step_lem : (used i at : ℕ) (l : List ℕ) (next : ℕ) (b : List ℕ) → i < 64 → at ≤ length s → Long l
      → junior_step s used i at l ≡ go next b → Stepped Long (junior_bytes used) s i at l next b
  unfolding junior_step junior_bytes
  junior_step_lem used i at l next b h m k q = by (has used i) refl q
    where
      by : (t : Bool) → has used i ≡ t → pick t (on_num (set_at s used at) (λ x e. go e (set l i x))) (go at l) ≡ go next b
          → Stepped Long (junior_bytes used) s i at l next b
      by true t q = let a = on_num_lem (set_at s used at) _ q in done a.0 a.1 a.2 a.3
        where
          done : (x mid : ℕ) → set_at s used at ≡ Value x mid → go mid (set l i x) ≡ go next b → Stepped Long (junior_bytes used) s i at l next b
          done x mid v r =
              let a = set_exact s small used v in
              let z : set l i x ≡ b = cc in
              let y : mid ≡ next = cc in
              rw (← z, ← y)
              (record {
                ok = record { long = length-set l i x ∙ k.long };
                onward = a.onward;
                within = a.within;
                bytes = ap (juniors_bytes used i) (get_or-set_same l i x 0 (omega (arith, k.long))) ∙ juniors_in used i x t ∙ a.bytes;
                stays = λ j d. ap (juniors_bytes used j) (get_or-set_other l i j x 0 (omega arith));
              })
      by false t q =
          let z : l ≡ b = cc in
          let y : at ≡ next = cc in
          let a = exact_none s at m in
          rw (← z, ← y)
          (record { ok = k; onward = a.onward; within = a.within; bytes = juniors_out used i (get_or l i 0) t ∙ a.bytes; stays = λ j d. refl })

  pub order_exact : (all at : ℕ) {e : ℕ} {o : Order} → order_at s all at ≡ go e o → Exact s at e (order_bytes o)
  unfolding order_at juniors_at order_bytes junior_bytes
  order_exact all at {e} {o} q =
      let u = on_num_lem (set_at s all at) _ q in
      let j = on_step_lem (juniors_at s u.0 u.1) _ u.3 in
      done u.0 u.1 j.0 j.1 u.2 j.2 j.3
    where
      done : (used mid past : ℕ) (l : List ℕ) → set_at s all at ≡ Value used mid → juniors_at s used mid ≡ go past l
          → go past (record { used = used; juniors = l }) ≡ go e o → Exact s at e (order_bytes o)
      done used mid past l v r t =
          let a = set_exact s small all v in
          let k = each_run (junior_step s used) Long (junior_bytes used) s 64 (junior_step_lem used) 64 0 mid (replicate 64 0) past l (omega arith) a.within
          (record { long = length-replicate {A = ℕ} 64 0 }) r in
          let z : ◌≡◌ {A = Order} (record { used = used; juniors = l }) o = cc in
          let y : past ≡ e = cc in
          rw (← z, ← y) (exact_next a (record { onward = k.onward; within = k.within; bytes = k.bytes }))
