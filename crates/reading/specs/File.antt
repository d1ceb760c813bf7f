-- The policy file, whole. Document 01, "The policy file". s is the input, a list of bytes.
use Rattle.std.specs.Prelude.{ℕ, true, false, List, eqb, ltb, length, ⊤, Result, Ok, Err}
use Rattle.sets.specs.Tests.{pick}
use Rattle.order.specs.declared.Order.{Order}
use Rattle.policy.specs.declared.Members.{Members}
use Rattle.policy.specs.declared.People.{People}
use Rattle.policy.specs.declared.Table.{Table}
use Rattle.policy.specs.declared.Orders.{Orders}
use Rattle.policy.specs.declared.Tables.{Tables}
use Rattle.policy.specs.declared.Ranges.{Ranges}
use Rattle.policy.specs.declared.Policy.{Policy}
use Rattle.policy.specs.Build.{empty_policy}
use Rattle.number.specs.Number.{Num, num_at, tested, number_of, place_of}
use Rattle.number.specs.Run.{Step, go, stop, on_num, on_step}
use Rattle.sections.specs.Sections.{all_below, order_at, people_at, members_at}
use Rattle.rows.specs.Rows.{table_at, ranges_at}
use Rattle.faults.specs.Faults.{fault, number}
use Rattle.reading.specs.declared.File.{File}
use Rattle.reading.specs.declared.Places.{Places}
use Rattle.reading.specs.declared.FileError.{FileError}
use Rattle.reading.specs.declared.FileError.TheVariants as error

-- "the number 1"; "22 a first number other than 1"
unfoldable pub one_at : List ℕ → ℕ → Num
one_at s at = tested (λ x. eqb x 1) at (num_at s at)

-- ---- "In order: the number 1; set of roles; for each role in use, ascending, its set of strict juniors; the same two for administrative roles;
-- count of users, each with role set and administrative set; count of permissions, each with role set"

pub record Front : Type 0 where
  pub orders : Orders
  pub people : People
  pub permissions : Members

abbrev pub front : Order → Order → People → Members → Front
front roles admins people permissions =
    record { orders = record { roles = roles; admins = admins }; people = people; permissions = permissions }

unfoldable pub front_at : List ℕ → ℕ → Step Front
front_at s at =
    on_num (one_at s at) (λ one a. on_step (order_at s (all_below 64) a) (λ b roles. on_step (order_at s (all_below 16) b) (λ c admins.
    on_step (people_at s roles.used admins.used c) (λ d people. on_step (members_at s roles.used d) (λ e permissions.
    go e (front roles admins people permissions))))))

-- ---- "then five tables, each a count and rows: can-assign, can-revoke, the same two for permissions, can-modify"

pub record Rest : Type 0 where
  pub tables : Tables
  pub modify : Ranges
  pub places : Places

abbrev pub rest : Table → Table → Table → Table → Ranges → Places → Rest
rest assign revoke assignp revokep modify places =
    record {
      tables = record { assign = assign; revoke = revoke; assignp = assignp; revokep = revokep };
      modify = modify;
      places = places;
    }

abbrev pub places : ℕ → ℕ → ℕ → ℕ → ℕ → ℕ → Places
places a b c d e end = record { assign = a; revoke = b; assignp = c; revokep = d; modify = e; end = end }

-- the tables, with the place where each starts and where the last one ends
unfoldable pub rest_at : List ℕ → ℕ → ℕ → ℕ → Step Rest
rest_at s roles admins a =
    on_step (table_at s true roles admins a) (λ b assign. on_step (table_at s false roles admins b) (λ c revoke.
    on_step (table_at s true roles admins c) (λ d assignp. on_step (table_at s false roles admins d) (λ e revokep.
    on_step (ranges_at s roles admins e) (λ end modify.
    go end (rest assign revoke assignp revokep modify (places a b c d e end)))))))

-- ---- the whole

abbrev pub file : Front → Rest → File
file f r =
    record {
      policy = record { orders = f.orders; people = f.people; permissions = f.permissions; tables = r.tables; modify = r.modify };
      places = r.places;
    }

-- what a file is read into
abbrev pub no_file : File
no_file = record { policy = empty_policy; places = places 0 0 0 0 0 0 }

-- "Then: 27 bytes left over (place: the first)", and 23 to 26 ("23 to 26: place 0")
unfoldable pub judge : List ℕ → ℕ → Front → Rest → Step File
judge s end f r =
    pick (ltb end (length s)) (stop 27 end)
    (pick (eqb (fault f.orders r.modify) 0) (go end (file f r))
    (stop (fault f.orders r.modify) 0))

unfoldable pub file_at : List ℕ → Step File
file_at s =
    on_step (front_at s 0) (λ at f. on_step (rest_at s f.orders.roles.used f.orders.admins.used at) (λ end r. judge s end f r))

-- how the reading of a file ends: it is accepted, or refused by a number, at a place
pub data How : Type 0 where
  Accepted : How
  Refused : ℕ → ℕ → How

-- what the code answers, in document 01's numbers: "23 to 26: place 0"
abbrev pub error_number : FileError → ℕ
error_number (error.Number e) = number_of e
error_number (error.LeftOver p) = 27
error_number (error.Fault f) = number f

abbrev pub error_place : FileError → ℕ
error_place (error.Number e) = place_of e
error_place (error.LeftOver p) = p
error_place (error.Fault f) = 0

abbrev pub as_how : Result ⊤ FileError → How
as_how (Ok u) = Accepted
as_how (Err e) = Refused (error_number e) (error_place e)

pub record Loaded : Type 0 where
  pub how : How
  pub policy : Policy

-- "A refused read yields a policy with nothing in it."
abbrev pub loaded : Step File → Loaded
loaded (go end f) = record { how = Accepted; policy = f.policy }
loaded (stop c p) = record { how = Refused c p; policy = empty_policy }

unfoldable pub read_policy : List ℕ → Loaded
read_policy s = loaded (file_at s)
