-- The P cases of document 01 as one table: cases 1 to 11 and 13.
use Rattle.std.specs.Prelude.{List, [], ◌∷◌, ℕ}
use Rattle.policy.specs.declared.Policy.{Policy}
use Rattle.policy.specs.Build.{with_roles, with_users}
use Rattle.policy.specs.Outcome.{refused, accepted}
use Rattle.requests.specs.declared.Request.{Request}
use Rattle.requests.specs.Requests.{ask}
use Rattle.requests.specs.Examples.{order_of, members_of, F, chain, Case}

-- refused with a number; accepted, with other roles, with other users' roles
abbrev pub gives : Policy → Request → ℕ → Case
gives p q n = record { before = p; request = q; answer = refused p n }

abbrev pub leaves : Request → ℕ → ℕ → List ℕ → Case
leaves q n used juniors = record { before = F; request = q; answer = accepted (with_roles F (order_of used juniors)) n }

abbrev pub joins : Request → List ℕ → Case
joins q users = record { before = F; request = q; answer = accepted (with_users F (members_of users)) 0 }

unfoldable pub cases : List Case
cases =
    -- 1. u0 inserts (QE1, PE1): 0; one new pair
    leaves (ask 0 7 4 3) 0 2047 (0 ∷ 1 ∷ 3 ∷ 7 ∷ 15 ∷ 31 ∷ 3 ∷ 67 ∷ 67 ∷ 451 ∷ 1023 ∷ [])
    -- 2. u1 inserts (QE1, PE2): 9
    ∷ gives F (ask 1 7 4 7) 9
    -- 3. u0 inserts (QE1, PE2): 3
    ∷ gives F (ask 0 7 4 7) 3
    -- 4. u1 inserts (QE1, E1): 5
    ∷ gives F (ask 1 7 4 2) 5
    -- 5. u0 deletes edge (QE1, E1): 3
    ∷ gives F (ask 0 8 4 2) 3
    -- 6. u1 deletes edge (QE1, E1): 0; QE1 stays senior to ED
    ∷ leaves (ask 1 8 4 2) 0 2047 (0 ∷ 1 ∷ 3 ∷ 7 ∷ 3 ∷ 31 ∷ 3 ∷ 67 ∷ 67 ∷ 451 ∷ 1023 ∷ [])
    -- 7. u1 deletes edge (PL1, E1): 5
    ∷ gives F (ask 1 8 5 2) 5
    -- 8. u0 creates under PL1 over PE1: 0, role 11
    ∷ leaves (ask 0 5 5 3) 11 4095 (0 ∷ 1 ∷ 3 ∷ 7 ∷ 7 ∷ 2079 ∷ 3 ∷ 67 ∷ 67 ∷ 451 ∷ 3071 ∷ 15 ∷ [])
    -- 9. u1 creates under DIR over PE1: 9
    ∷ gives F (ask 1 5 10 3) 9
    -- 10. u1 deletes role E1: 7. u0 deletes PE1: 0
    ∷ gives F (ask 1 6 2 0) 7
    ∷ leaves (ask 0 6 3 0) 0 2039 (0 ∷ 1 ∷ 3 ∷ 0 ∷ 7 ∷ 23 ∷ 3 ∷ 67 ∷ 67 ∷ 451 ∷ 1015 ∷ [])
    -- 11. u0 puts u2 in PE1: 0; in PL1: 3; u1 in PE1: 4
    ∷ joins (ask 0 1 2 3) (0 ∷ 0 ∷ 10 ∷ [])
    ∷ gives F (ask 0 1 2 5) 3
    ∷ gives F (ask 0 1 1 3) 4
    -- 13. chain: create under 3 over 1: 9
    ∷ gives chain (ask 0 5 3 1) 9
    ∷ []
