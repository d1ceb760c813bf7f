-- By what a file is refused. Document 01, "The policy file": "Read refusals: 20 the input ends inside or before a number (place: input length);
-- 21 not shortest or over 64 bits; a tenth byte above 1 is over; 22 a first number other than 1, a count over its size, an administrative role
-- above 15, a set or row naming what is not in use, brackets above 3 (21, 22: place of the number's first byte). The first in reading order wins,
-- and for one number 21 comes before 22. Then: 27 bytes left over (place: the first); 23 either order not strict; 24 a can-modify low not junior
-- to high; 25 a range not encapsulated; 26 two overlap in part (23 to 26: place 0)."
--   Fails         one number that fails, at its place
--   OrderFails    .. of an order; UserFails, RangeFails, RowFails: .. of a user, of a can-modify row, of any other row
--   EachFails     .. of a count and of the things that it counts
--   RefusedBy     which number of the file it is; or 27; or 23 to 26
-- s is the input, a list of bytes; c is the refusal's number and p its place.
use Rattle.std.specs.Prelude.{ℕ, ◌+◌, ◌≤◌, ◌<◌, ◌≡◌, Bool, true, false, List, eqb, leb, length, replicate}
use Rattle.sets.specs.Tests.{◌or◌}
use Rattle.sets.specs.Sets.{has, subset}
use Rattle.order.specs.declared.Order.{Order}
use Rattle.ranges.specs.declared.ModifyRow.{ModifyRow}
use Rattle.ranges.specs.Rows.{no_row}
use Rattle.policy.specs.declared.People.{People}
use Rattle.policy.specs.declared.Table.{Table}
use Rattle.policy.specs.Build.{empty_row}
use Rattle.number.specs.Number.{byte, last_of, is_long, is_over, num_at}
use Rattle.number.specs.Run.{Step, go, run}
use Rattle.number.specs.Number.{Value}
use Rattle.sections.specs.Numbers.{set_at, count_at, member_at}
use Rattle.sections.specs.Sections.{all_below, junior_step, order_at, people, user_step, people_at, members, member_step}
use Rattle.rows.specs.Rows.{range_at, table, row_step, table_at, ranges, range_step}
use Rattle.faults.specs.Faults.{fault}
use Rattle.reading.specs.File.{Front}
use Rattle.reading.specs.File.{one_at, front_at, Rest, rest_at}

-- ---- one number: the one whose first byte stands at a place, and which has to pass a test

pub data Fails (s : List ℕ) (test : ℕ → Bool) (at c p : ℕ) : Type 0 where
  -- "20 the input ends inside or before a number (place: input length)"
  cut_short : length s ≤ at + last_of s at → c ≡ 20 → p ≡ length s → Fails s test at c p
  -- "21 not shortest or over 64 bits; a tenth byte above 1 is over"
  malformed : at + last_of s at < length s
      → (is_long (last_of s at) (byte s at (last_of s at)) or is_over (last_of s at) (byte s at (last_of s at))) ≡ true
      → c ≡ 21 → p ≡ at → Fails s test at c p
  -- 22: it is a number, and none that may stand there
  unfit : {x next : ℕ} → num_at s at ≡ Value x next → test x ≡ false → c ≡ 22 → p ≡ at → Fails s test at c p

-- what may stand there: "a first number other than 1, a count over its size, .. a set or row naming what is not in use, brackets above 3"
abbrev pub FirstFails : List ℕ → ℕ → ℕ → ℕ → Type 0
FirstFails s at c p = Fails s (λ x. eqb x 1) at c p

abbrev pub SetFails : List ℕ → ℕ → ℕ → ℕ → ℕ → Type 0
SetFails s used at c p = Fails s (λ x. subset 64 x used) at c p

abbrev pub CountFails : List ℕ → ℕ → ℕ → ℕ → ℕ → Type 0
CountFails s most at c p = Fails s (λ x. leb x most) at c p

abbrev pub MemberFails : List ℕ → ℕ → ℕ → ℕ → ℕ → Type 0
MemberFails s used at c p = Fails s (has used) at c p

-- ---- which number of a section: those before it were read

-- an order of the numbers of a set `all`: its set, or the juniors of number i
pub data OrderFails (s : List ℕ) (all at c p : ℕ) : Type 0 where
  set_of-all : SetFails s all at c p → OrderFails s all at c p
  juniors_of : (i : ℕ) {used mid place : ℕ} {juniors : List ℕ} → set_at s all at ≡ Value used mid → i < 64 → has used i ≡ true
      → run (junior_step s used) i 0 mid (replicate 64 0) ≡ go place juniors → SetFails s used place c p → OrderFails s all at c p

-- a count and what it counts: the count, or a number of thing i
pub data EachFails {A : Type 0} (s : List ℕ) (most : ℕ) (step : ℕ → ℕ → A → Step A) (start : ℕ → A) (ItemFails : ℕ → Type 0)
    (at c p : ℕ) : Type 0 where
  the_count : CountFails s most at c p → EachFails s most step start ItemFails at c p
  item : (i : ℕ) {n next place : ℕ} {a : A} → count_at s most at ≡ Value n next → i < n → run step i 0 next (start n) ≡ go place a
      → ItemFails place → EachFails s most step start ItemFails at c p

-- a user: the role set, or the administrative set
pub data UserFails (s : List ℕ) (roles admins at c p : ℕ) : Type 0 where
  role_set : SetFails s roles at c p → UserFails s roles admins at c p
  admin_set : {x mid : ℕ} → set_at s roles at ≡ Value x mid → SetFails s admins mid c p → UserFails s roles admins at c p

-- a can-modify row, and the first numbers of any other: administrative role, low, or high
pub data RangeFails (s : List ℕ) (roles admins at c p : ℕ) : Type 0 where
  admin : MemberFails s admins at c p → RangeFails s roles admins at c p
  low : {x second : ℕ} → member_at s admins at ≡ Value x second → MemberFails s roles second c p → RangeFails s roles admins at c p
  high : {x y second third : ℕ} → member_at s admins at ≡ Value x second → member_at s roles second ≡ Value y third
      → MemberFails s roles third c p → RangeFails s roles admins at c p

-- any other row: these three, the brackets, and in the two can-assign tables the needed set, or the barred set
pub data RowFails (s : List ℕ) (assign : Bool) (roles admins at c p : ℕ) : Type 0 where
  ends : RangeFails s roles admins at c p → RowFails s assign roles admins at c p
  brackets : {fourth : ℕ} {r : ModifyRow} → range_at s roles admins at ≡ go fourth r
      → CountFails s 3 fourth c p → RowFails s assign roles admins at c p
  needed : {fourth fifth b : ℕ} {r : ModifyRow} → assign ≡ true → range_at s roles admins at ≡ go fourth r → count_at s 3 fourth ≡ Value b fifth
      → SetFails s roles fifth c p → RowFails s assign roles admins at c p
  barred : {fourth fifth sixth b n : ℕ} {r : ModifyRow} → assign ≡ true → range_at s roles admins at ≡ go fourth r
      → count_at s 3 fourth ≡ Value b fifth → set_at s roles fifth ≡ Value n sixth → SetFails s roles sixth c p → RowFails s assign roles admins at c p

abbrev pub PeopleFails : List ℕ → ℕ → ℕ → ℕ → ℕ → ℕ → Type 0
PeopleFails s roles admins at c p =
    EachFails s 256 (user_step s roles admins) (λ n. people n (replicate 256 0) (replicate 256 0)) (λ place. UserFails s roles admins place c p) at c p

abbrev pub MembersFails : List ℕ → ℕ → ℕ → ℕ → ℕ → Type 0
MembersFails s roles at c p =
    EachFails s 256 (member_step s roles) (λ n. members n (replicate 256 0)) (λ place. SetFails s roles place c p) at c p

abbrev pub TableFails : List ℕ → Bool → ℕ → ℕ → ℕ → ℕ → ℕ → Type 0
TableFails s assign roles admins at c p =
    EachFails s 64 (row_step s assign roles admins) (λ n. table n (replicate 64 empty_row)) (λ place. RowFails s assign roles admins place c p) at c p

abbrev pub RangesFails : List ℕ → ℕ → ℕ → ℕ → ℕ → ℕ → Type 0
RangesFails s roles admins at c p =
    EachFails s 64 (range_step s roles admins) (λ n. ranges n (replicate 64 no_row)) (λ place. RangeFails s roles admins place c p) at c p

-- ---- the file

abbrev pub roles_of : Front → ℕ
roles_of f = f.orders.roles.used

abbrev pub admins_of : Front → ℕ
admins_of f = f.orders.admins.used

-- what leads to a refusal
pub data RefusedBy (s : List ℕ) (c p : ℕ) : Type 0 where
  -- 20 to 22, "the first in reading order": the first number; an order; users; permissions
  first_number : FirstFails s 0 c p → RefusedBy s c p
  in_roles : {one a : ℕ} → one_at s 0 ≡ Value one a → OrderFails s (all_below 64) a c p → RefusedBy s c p
  in_admins : {one a b : ℕ} {roles : Order} → one_at s 0 ≡ Value one a → order_at s (all_below 64) a ≡ go b roles
      → OrderFails s (all_below 16) b c p → RefusedBy s c p
  in_users : {one a b d : ℕ} {roles admins : Order} → one_at s 0 ≡ Value one a → order_at s (all_below 64) a ≡ go b roles
      → order_at s (all_below 16) b ≡ go d admins → PeopleFails s roles.used admins.used d c p → RefusedBy s c p
  in_permissions : {one a b d e : ℕ} {roles admins : Order} {users : People} → one_at s 0 ≡ Value one a → order_at s (all_below 64) a ≡ go b roles
      → order_at s (all_below 16) b ≡ go d admins → people_at s roles.used admins.used d ≡ go e users
      → MembersFails s roles.used e c p → RefusedBy s c p
  -- .. and the five tables, from where the sections before them end
  in_assign : {a : ℕ} {f : Front} → front_at s 0 ≡ go a f → TableFails s true (roles_of f) (admins_of f) a c p → RefusedBy s c p
  in_revoke : {a b : ℕ} {f : Front} {t : Table} → front_at s 0 ≡ go a f → table_at s true (roles_of f) (admins_of f) a ≡ go b t
      → TableFails s false (roles_of f) (admins_of f) b c p → RefusedBy s c p
  in_assignp : {a b d : ℕ} {f : Front} {t u : Table} → front_at s 0 ≡ go a f → table_at s true (roles_of f) (admins_of f) a ≡ go b t
      → table_at s false (roles_of f) (admins_of f) b ≡ go d u → TableFails s true (roles_of f) (admins_of f) d c p → RefusedBy s c p
  in_revokep : {a b d e : ℕ} {f : Front} {t u v : Table} → front_at s 0 ≡ go a f → table_at s true (roles_of f) (admins_of f) a ≡ go b t
      → table_at s false (roles_of f) (admins_of f) b ≡ go d u → table_at s true (roles_of f) (admins_of f) d ≡ go e v
      → TableFails s false (roles_of f) (admins_of f) e c p → RefusedBy s c p
  in_modify : {a b d e g : ℕ} {f : Front} {t u v w : Table} → front_at s 0 ≡ go a f → table_at s true (roles_of f) (admins_of f) a ≡ go b t
      → table_at s false (roles_of f) (admins_of f) b ≡ go d u → table_at s true (roles_of f) (admins_of f) d ≡ go e v
      → table_at s false (roles_of f) (admins_of f) e ≡ go g w → RangesFails s (roles_of f) (admins_of f) g c p → RefusedBy s c p
  -- "Then: 27 bytes left over (place: the first)"
  left_over : {at end : ℕ} {f : Front} {r : Rest} → front_at s 0 ≡ go at f → rest_at s (roles_of f) (admins_of f) at ≡ go end r
      → end < length s → c ≡ 27 → p ≡ end → RefusedBy s c p
  -- 23 to 26, "place 0"
  at_fault : {at end : ℕ} {f : Front} {r : Rest} → front_at s 0 ≡ go at f → rest_at s (roles_of f) (admins_of f) at ≡ go end r
      → length s ≤ end → c ≡ fault f.orders r.modify → (c ≡ 0 → ⊥) → p ≡ 0 → RefusedBy s c p
