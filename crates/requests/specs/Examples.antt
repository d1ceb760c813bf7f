-- Document 01, "The engineering department". Administrative roles: 0 SSO, 1 DSO, 2 PSO1 (the paper numbers none of them).
use Rattle.std.specs.Prelude.{List, [], ◌∷◌, ◌++◌, ℕ, ◌-◌, length, replicate}
use Rattle.order.specs.declared.Order.{Order}
use Rattle.ranges.specs.declared.ModifyRow.{ModifyRow}
use Rattle.ranges.specs.Rows.{no_row}
use Rattle.policy.specs.declared.Policy.{Policy}
use Rattle.policy.specs.declared.Members.{Members}
use Rattle.policy.specs.declared.Row.{Row}
use Rattle.policy.specs.Build.{empty_row, empty_table, empty_members}
use Rattle.policy.specs.Outcome.{Answer}
use Rattle.requests.specs.declared.Request.{Request}

-- a list that begins as given and goes on with d, n in all
abbrev pub padded {ℓ} : {A : Type ℓ} → ℕ → A → List A → List A
padded n d l = l ++ replicate (n - length l) d

abbrev pub order_of : ℕ → List ℕ → Order
order_of used juniors = record { used = used; juniors = padded 64 0 juniors }

abbrev pub members_of : List ℕ → Members
members_of l = record { count = length l; roles = padded 256 0 l }

abbrev pub modify_row : ℕ → ℕ → ℕ → ModifyRow
modify_row admin low high = record { admin = record { 0 = admin }; low = record { 0 = low }; high = record { 0 = high } }

-- "E < ED; ED < E1 < PE1, QE1 < PL1 < DIR; the same for project 2."
-- Roles: 0 E, 1 ED, 2 E1, 3 PE1, 4 QE1, 5 PL1, 6 E2, 7 PE2, 8 QE2, 9 PL2, 10 DIR
abbrev pub department : Order
department = order_of 2047 (0 ∷ 1 ∷ 3 ∷ 7 ∷ 7 ∷ 31 ∷ 3 ∷ 67 ∷ 67 ∷ 451 ∷ 1023 ∷ [])

-- "Can-assign: PSO1, needed ED, [E1, PL1)."
abbrev pub assign_row : Row
assign_row =
    record { admin = record { 0 = 2 }; low = record { 0 = 2 }; high = record { 0 = 5 }; brackets = 1; needed = 2; barred = 0 }

-- "SSO > DSO > PSO1." "Users: u0 PSO1, u1 DSO, u2 explicitly in ED. No permissions, no other rows."
-- "Can-modify: PSO1 (E1, PL1), PSO1 (E2, PL2), DSO (ED, DIR)."
unfoldable pub F : Policy
F =
    record {
      orders = record { roles = department; admins = order_of 7 (6 ∷ 4 ∷ 0 ∷ []) };
      people = record { users = members_of (0 ∷ 0 ∷ 2 ∷ []); offices = padded 256 0 (4 ∷ 2 ∷ 0 ∷ []) };
      permissions = empty_members;
      tables = record {
        assign = record { count = 1; rows = padded 64 empty_row (assign_row ∷ []) };
        revoke = empty_table;
        assignp = empty_table;
        revokep = empty_table;
      };
      modify = record { count = 3; rows = padded 64 no_row (modify_row 2 2 5 ∷ modify_row 2 6 9 ∷ modify_row 1 1 10 ∷ []) };
    }

-- case 13: "Chain 0 < 1 < 2 < 3 < 4, rows (0, 2) and (1, 4) for the officer"
unfoldable pub chain : Policy
chain =
    record {
      orders = record { roles = order_of 31 (0 ∷ 1 ∷ 3 ∷ 7 ∷ 15 ∷ []); admins = order_of 1 [] };
      people = record { users = members_of (0 ∷ []); offices = padded 256 0 (1 ∷ []) };
      permissions = empty_members;
      tables = record { assign = empty_table; revoke = empty_table; assignp = empty_table; revokep = empty_table };
      modify = record { count = 2; rows = padded 64 no_row (modify_row 0 0 2 ∷ modify_row 0 1 4 ∷ []) };
    }

-- one case: the policy, the request, and the whole answer
pub record Case : Type 0 where
  pub before : Policy
  pub request : Request
  pub answer : Answer
