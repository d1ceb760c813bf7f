-- The sections of the policy file before its tables, in reading order. Document 01, "The policy file".
-- s is the input, a list of bytes; at is the place of the section's first byte.
use Rattle.std.specs.Prelude.{ℕ, true, List, set, replicate}
use Rattle.sets.specs.Tests.{pick}
use Rattle.sets.specs.Sets.{has, set_of}
use Rattle.order.specs.declared.Order.{Order}
use Rattle.policy.specs.declared.Members.{Members}
use Rattle.policy.specs.declared.People.{People}
use Rattle.number.specs.Run.{Step, go, stop, on_num, on_step, run}
use Rattle.sections.specs.Numbers.{set_at, count_at}

-- ---- "set of roles; for each role in use, ascending, its set of strict juniors; the same two for administrative roles"

-- "64 roles (0 to 63), 16 administrative roles (0 to 15)": the set of the w numbers there are
unfoldable pub all_below : ℕ → ℕ
all_below w = set_of w (λ n. true)

-- number i, where it is in use: its strict juniors, inside what is in use
unfoldable pub junior_step : List ℕ → ℕ → ℕ → ℕ → List ℕ → Step (List ℕ)
junior_step s used i at juniors =
    pick (has used i) (on_num (set_at s used at) (λ x next. go next (set juniors i x))) (go at juniors)

unfoldable pub juniors_at : List ℕ → ℕ → ℕ → Step (List ℕ)
juniors_at s used at = run (junior_step s used) 64 0 at (replicate 64 0)

-- an order of the numbers of a set `all`
unfoldable pub order_at : List ℕ → ℕ → ℕ → Step Order
order_at s all at =
    on_num (set_at s all at) (λ used mid. on_step (juniors_at s used mid) (λ next juniors.
    go next (record { used = used; juniors = juniors })))

-- ---- "count of users, each with role set and administrative set"

abbrev pub people : ℕ → List ℕ → List ℕ → People
people count roles offices = record { users = record { count = count; roles = roles }; offices = offices }

unfoldable pub user_step : List ℕ → ℕ → ℕ → ℕ → ℕ → People → Step People
user_step s roles admins i at p =
    on_num (set_at s roles at) (λ x mid. on_num (set_at s admins mid) (λ y next.
    go next (people p.users.count (set p.users.roles i x) (set p.offices i y))))

unfoldable pub people_at : List ℕ → ℕ → ℕ → ℕ → Step People
people_at s roles admins at =
    on_num (count_at s 256 at) (λ n next. run (user_step s roles admins) n 0 next (people n (replicate 256 0) (replicate 256 0)))

-- ---- "count of permissions, each with role set"

abbrev pub members : ℕ → List ℕ → Members
members count roles = record { count = count; roles = roles }

unfoldable pub member_step : List ℕ → ℕ → ℕ → ℕ → Members → Step Members
member_step s roles i at m = on_num (set_at s roles at) (λ x next. go next (members m.count (set m.roles i x)))

unfoldable pub members_at : List ℕ → ℕ → ℕ → Step Members
members_at s roles at = on_num (count_at s 256 at) (λ n next. run (member_step s roles) n 0 next (members n (replicate 256 0)))
