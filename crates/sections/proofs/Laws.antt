-- What the readers of a section know at each number they have read.
-- Assumes nothing.
use Prim.Native.Nat.{ℕ, ◌^◌, ◌<◌, ◌≤◌}
use mathlib.Core.Path.{◌≡◌, refl}
use Rattle.std.specs.Prelude.{Result, Ok, Err}
use mathlib.Core.Bool.{true, false}
use mathlib.Core.List.{List}
use borrow.Author.Tests.{leb-true}
use lib.Dec.{leb}
use lib.ListN.{set, replicate}
use Rattle.sets.specs.Sets.{has}
use Rattle.sets.proofs.Digits.{has_below}
use Rattle.policy.specs.declared.People.{People}
use Rattle.number.specs.declared.NumberError.{NumberError}
use Rattle.number.specs.Number.{num_at, as_num}
use Rattle.number.specs.Run.{Step, go, stop, as_step, on_num, on_step, run}
use Rattle.number.specs.Number.{Num}
use Rattle.number.specs.Number.{Value, Refused}
use Rattle.number.proofs.Tested.{tested_was}
use Rattle.sections.proofs.Each.{each-read}
use Rattle.sections.specs.Numbers.{set_at, count_at, member_at}
use Rattle.sections.specs.Each.{things_read, put_step, each_at}
use Rattle.sections.specs.Sections.{junior_step, juniors_at, order_at, people, user_step, people_at, members, member_step, members_at}

-- a count that was read is within its size
pub count_most : (s : List ℕ) (most at : ℕ) {x next : ℕ} → count_at s most at ≡ Value x next → x ≤ most
unfolding count_at
count_most s most at {x} q = leb-true x most (tested_was (λ y. leb y most) at (num_at s at) q).1

-- a member that was read is one, and below 64
pub member_of : (s : List ℕ) (of at : ℕ) {x next : ℕ} → member_at s of at ≡ Value x next → has of x ≡ true
unfolding member_at
member_of s of at q = (tested_was (has of) at (num_at s at) q).1

pub member_below : (s : List ℕ) (of at : ℕ) {x next : ℕ} → of < 2 ^ 64 → member_at s of at ≡ Value x next → x < 64
member_below s of at {x} h q = has_below 64 of x h (member_of s of at q)

-- ---- an order

module _ (s : List ℕ) (used i at : ℕ) (juniors : List ℕ) where
  pub junior_skip : has used i ≡ false → junior_step s used i at juniors ≡ go at juniors
  unfolding junior_step
  junior_skip h = rw h

  module _ (h : has used i ≡ true) where
    pub junior_in : {x next : ℕ} → set_at s used at ≡ Value x next → junior_step s used i at juniors ≡ go next (set juniors i x)
    unfolding junior_step
    junior_in e = rw (h, e)

    pub junior_not : {c p : ℕ} → set_at s used at ≡ Refused c p → junior_step s used i at juniors ≡ stop c p
    unfolding junior_step
    junior_not e = rw (h, e)

module _ (s : List ℕ) (all at : ℕ) where
  pub order_none : {c p : ℕ} → set_at s all at ≡ Refused c p → order_at s all at ≡ stop c p
  unfolding order_at
  order_none e = rw e

  module _ {used mid : ℕ} (e : set_at s all at ≡ Value used mid) where
    pub order_not : {c p : ℕ} → juniors_at s used mid ≡ stop c p → order_at s all at ≡ stop c p
    unfolding order_at
    order_not k = rw (e, k)

    pub order_over : {next : ℕ} {juniors : List ℕ} → juniors_at s used mid ≡ go next juniors → order_at s all at ≡ go next (record { used = used; juniors = juniors })
    unfolding order_at
    order_over k = rw (e, k)

-- ---- users

module _ (s : List ℕ) (roles admins i at : ℕ) (p : People) where
  pub user_not : {c q : ℕ} → set_at s roles at ≡ Refused c q → user_step s roles admins i at p ≡ stop c q
  unfolding user_step
  user_not e = rw e

  module _ {x mid : ℕ} (e : set_at s roles at ≡ Value x mid) where
    pub user_not_2 : {c q : ℕ} → set_at s admins mid ≡ Refused c q → user_step s roles admins i at p ≡ stop c q
    unfolding user_step
    user_not_2 k = rw (e, k)

    pub user_in : {y next : ℕ} → set_at s admins mid ≡ Value y next
        → user_step s roles admins i at p ≡ go next (people p.users.count (set p.users.roles i x) (set p.offices i y))
    unfolding user_step
    user_in k = rw (e, k)

module _ (s : List ℕ) (roles admins at : ℕ) where
  pub people_none : {c p : ℕ} → count_at s 256 at ≡ Refused c p → people_at s roles admins at ≡ stop c p
  unfolding people_at
  people_none e = rw e

  pub people-run : {n next : ℕ} → count_at s 256 at ≡ Value n next
      → people_at s roles admins at ≡ run (user_step s roles admins) n 0 next (people n (replicate 256 0) (replicate 256 0))
  unfolding people_at
  people-run e = rw e

-- ---- permissions

module _ (s : List ℕ) (roles : ℕ) where
  -- a set as a thing
  abbrev pub set_item : ℕ → Step ℕ
  set_item at = on_num (set_at s roles at) (λ x next. go next x)

  pub as_item : (r : Result (ℕ × ℕ) NumberError) (at : ℕ) → as_num r ≡ set_at s roles at → as_step r ≡ set_item at
  as_item (Ok x) at e = rw (← e)
  as_item (Err x) at e = rw (← e)

  member_put : (n i at : ℕ) (l : List ℕ)
      → member_step s roles i at (members n l) ≡ on_step (put_step set_item i at l) (λ next k. go next (members n k))
  unfolding member_step put_step
  member_put n i at l = by (set_at s roles at)
    where
      by : (m : Num) → on_num m (λ x next. go next (members n (set l i x)))
          ≡ on_step (on_step (on_num m (λ x next. go next x)) (λ next x. go next (set l i x))) (λ next k. go next (members n k))
      by (Value x next) = refl
      by (Refused c p) = refl

  pub members-read : (at : ℕ) (r : Result (ℕ × ℕ) NumberError) (k : List ℕ)
      → things_read r k ≡ each_at s set_item at (replicate 256 0)
      → on_step (as_step r) (λ next n. go next (members n k)) ≡ members_at s roles at
  unfolding members_at
  members-read at r k e = each-read set_item (member_step s roles) members member_put s at (replicate 256 0) r k e
