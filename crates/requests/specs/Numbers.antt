-- "A constant table says which numbers each kind may give: 1, 3: {2,3,4,5}; 2, 4: {2,3,5}; 5: {2,3,5,6,9}; 6: {1,2,3,7,8}; 7, 8: {2,3,5,9};
-- an unknown kind: {1}. Besides these only acceptance, for kinds 1 to 8."
use Rattle.std.specs.Prelude.{Bool, false, List, [], ◌∷◌, ℕ, eqb, get_or, Option, Some, None}
use Rattle.sets.specs.Tests.{◌or◌}
use Rattle.requests.specs.declared.Kind.{Kind}
use Rattle.requests.specs.declared.Kind.TheVariants.{AssignUser, RevokeUser, AssignPermission, RevokePermission}
use Rattle.requests.specs.declared.Kind.TheVariants.{CreateRole, DeleteRole, InsertEdge, DeleteEdge}
use Rattle.requests.specs.Kinds.{kind_of}

-- n is in the list
unfoldable pub among : ℕ → List ℕ → Bool
among n [] = false
among n (m ∷ l) = eqb n m or among n l

-- the numbers of each kind, acceptance with them
unfoldable pub numbers : Option Kind → List ℕ
numbers (Some AssignUser) = 0 ∷ 2 ∷ 3 ∷ 4 ∷ 5 ∷ []
numbers (Some RevokeUser) = 0 ∷ 2 ∷ 3 ∷ 5 ∷ []
numbers (Some AssignPermission) = 0 ∷ 2 ∷ 3 ∷ 4 ∷ 5 ∷ []
numbers (Some RevokePermission) = 0 ∷ 2 ∷ 3 ∷ 5 ∷ []
numbers (Some CreateRole) = 0 ∷ 2 ∷ 3 ∷ 5 ∷ 6 ∷ 9 ∷ []
numbers (Some DeleteRole) = 0 ∷ 1 ∷ 2 ∷ 3 ∷ 7 ∷ 8 ∷ []
numbers (Some InsertEdge) = 0 ∷ 2 ∷ 3 ∷ 5 ∷ 9 ∷ []
numbers (Some DeleteEdge) = 0 ∷ 2 ∷ 3 ∷ 5 ∷ 9 ∷ []
numbers None = 1 ∷ []

-- a request of the kind may give the number
unfoldable pub may_give : ℕ → ℕ → Bool
may_give kind n = among n (numbers (kind_of kind))

-- the same as the code holds it, a constant table of sets: the row of each kind by its number, from 0 on; the first, {1}, is also the row of
-- every number past the last
unfoldable pub NUMBERS : List ℕ
NUMBERS = 2 ∷ 61 ∷ 45 ∷ 61 ∷ 45 ∷ 621 ∷ 399 ∷ 557 ∷ 557 ∷ []

unfoldable pub table_row : ℕ → ℕ
table_row kind = get_or NUMBERS kind 2
