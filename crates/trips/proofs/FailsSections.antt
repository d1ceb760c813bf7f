-- When a section before the tables is refused: exactly if one of its numbers fails, and which.
-- Assumes nothing.
use Prim.Native.Nat.{ℕ}
use mathlib.Core.Path.{◌≡◌, refl}
use mathlib.Core.Logic.{◌↔◌}
use mathlib.Core.Bool.{Bool, true, false}
use mathlib.Core.List.{List}
use native.Mathlib.Nat.{zero-add}
use lib.ListN.{set, replicate}
use Rattle.sets.specs.Tests.{pick}
use Rattle.sets.specs.Sets.{has}
use Rattle.policy.specs.declared.Members.{Members}
use Rattle.policy.specs.declared.People.{People}
use Rattle.number.specs.Run.{Step, go, stop, on_num, run}
use Rattle.number.specs.Number.{Value}
use Rattle.sections.specs.Numbers.{set_at, count_at}
use Rattle.sections.specs.Sections.{junior_step, juniors_at, order_at, user_step, people_at, member_step, members_at}
use Rattle.trips.specs.Refusals.{SetFails, OrderFails, set_of-all, juniors_of, EachFails, the_count, item}
use Rattle.trips.specs.Refusals.{UserFails, role_set, admin_set, PeopleFails, MembersFails}
use Rattle.trips.proofs.Stops.{not_stopped, num_stopped, step_stopped, RunStops, run_stopped, run_stops}
use Rattle.trips.proofs.FailsNumbers.{set-refused, count-refused}

-- ---- a count and what it counts, where each step is refused exactly if ItemFails says so
module _ {A : Type 0} (s : List ℕ) (most : ℕ) (step : ℕ → ℕ → A → Step A) (start : ℕ → A)
    (ItemFails : ℕ → Type 0) {c p : ℕ} (steps : (i place : ℕ) (a : A) → (step i place a ≡ stop c p) ↔ ItemFails place)
    (at : ℕ) where
  each_fails : on_num (count_at s most at) (λ n next. run step n 0 next (start n)) ≡ stop c p
      → EachFails s most step start ItemFails at c p
  each_fails q =
      num_stopped _ _ q (λ r. the_count ((count-refused s _ _).0 r)) (λ n next v q.
      let t = run_stopped step _ _ _ _ q in
      item t.j v t.below t.before ((steps _ _ _).0 t.stops))

  each_stops : EachFails s most step start ItemFails at c p
      → on_num (count_at s most at) (λ n next. run step n 0 next (start n)) ≡ stop c p
  each_stops (the_count f) = let v = (count-refused s _ _).1 f in rw v
  each_stops (item i v l q f) = rw v (run_stops step _ _ _ _ i _ _ l q ((steps _ _ _).1 f))

  -- they are refused exactly if the count fails, or one of what it counts
  pub each_refused : (on_num (count_at s most at) (λ n next. run step n 0 next (start n)) ≡ stop c p)
      ↔ EachFails s most step start ItemFails at c p
  each_refused = (each_fails, each_stops)

module _ (s : List ℕ) {c p : ℕ} where
  -- ---- an order: the juniors of one number, and all
  module _ (used i place : ℕ) (juniors : List ℕ) where
    junior_fails : junior_step s used i place juniors ≡ stop c p → (has used i ≡ true) × SetFails s used place c p
    unfolding junior_step
    junior_fails q = by (has used i) refl q
      where
        by : (b : Bool) → has used i ≡ b
            → pick b (on_num (set_at s used place) (λ x next. go next (set juniors i x))) (go place juniors) ≡ stop c p
            → (has used i ≡ true) × SetFails s used place c p
        by true w q = num_stopped _ _ q (λ r. (w, (set-refused s _ _).0 r)) (λ x next v q. not_stopped q)
        by false w q = not_stopped q

    junior_stops : has used i ≡ true → SetFails s used place c p → junior_step s used i place juniors ≡ stop c p
    unfolding junior_step
    junior_stops h f = let v = (set-refused s _ _).1 f in rw (h, v)

  module _ (all at : ℕ) where
    order_fails : order_at s all at ≡ stop c p → OrderFails s all at c p
    unfolding order_at juniors_at
    order_fails q =
        num_stopped _ _ q (λ r. set_of-all ((set-refused s _ _).0 r)) (λ used mid v q.
        step_stopped _ _ q (λ q. juniors v (run_stopped (junior_step s used) _ _ _ _ q)) (λ next js v q. not_stopped q))
      where
        juniors : {used mid : ℕ} → set_at s all at ≡ Value used mid
            → RunStops (junior_step s used) 64 0 mid (replicate 64 0) c p → OrderFails s all at c p
        juniors {used} v t =
            let f = junior_fails used t.j t.place t.b (rw zero-add at t.stops) in
            juniors_of t.j v t.below f.0 t.before f.1

    order_stops : OrderFails s all at c p → order_at s all at ≡ stop c p
    unfolding order_at juniors_at
    order_stops (set_of-all f) = let v = (set-refused s _ _).1 f in rw v
    order_stops (juniors_of i {used} {mid} v l h q f) =
        let w : juniors_at s used mid ≡ stop c p =
        run_stops (junior_step s used) _ _ _ _ i _ _ l q (rw zero-add (junior_stops used i _ _ h f)) in
        rw (v, w)

    -- it is refused exactly if its set fails, or the juniors of a number in use
    pub order_refused : (order_at s all at ≡ stop c p) ↔ OrderFails s all at c p
    order_refused = (order_fails, order_stops)

  -- ---- users: each of them, and all
  module _ (roles admins : ℕ) where
    user_refused : (i at : ℕ) (a : People)
        → (user_step s roles admins i at a ≡ stop c p) ↔ UserFails s roles admins at c p
    unfolding user_step
    user_refused i at a = (fails, stops)
      where
        fails : user_step s roles admins i at a ≡ stop c p → UserFails s roles admins at c p
        fails q =
            num_stopped _ _ q (λ r. role_set ((set-refused s _ _).0 r)) (λ x mid v q.
            num_stopped _ _ q (λ r. admin_set v ((set-refused s _ _).0 r)) (λ y next w q. not_stopped q))

        stops : UserFails s roles admins at c p → user_step s roles admins i at a ≡ stop c p
        stops (role_set f) = let v = (set-refused s _ _).1 f in rw v
        stops (admin_set v f) = let w = (set-refused s _ _).1 f in rw (v, w)

    -- they are refused exactly if their count fails, or a role set or an administrative set
    pub people-refused : (at : ℕ) → (people_at s roles admins at ≡ stop c p) ↔ PeopleFails s roles admins at c p
    unfolding people_at
    people-refused at = each_refused s 256 (user_step s roles admins) _ _ user_refused at

  -- ---- permissions: each of them, and all
  module _ (roles : ℕ) where
    permission_refused : (i at : ℕ) (a : Members) → (member_step s roles i at a ≡ stop c p) ↔ SetFails s roles at c p
    unfolding member_step
    permission_refused i at a = (
      λ q. num_stopped _ _ q (set-refused s _ _).0 (λ x next v q. not_stopped q),
      λ f. let v = (set-refused s _ _).1 f in rw v,
    )

    -- they are refused exactly if their count fails, or a role set
    pub members-refused : (at : ℕ) → (members_at s roles at ≡ stop c p) ↔ MembersFails s roles at c p
    unfolding members_at
    members-refused at = each_refused s 256 (member_step s roles) _ _ permission_refused at
