-- The kinds of request. Document 01, "The eight requests". Whatever goes by kind goes by these cases, so that a kind that is added is a case
-- that the checker then asks for.
use Rattle.std.specs.Prelude.{List, [], ◌∷◌, ℕ, get_or, Option, Some, None}
use Rattle.requests.specs.declared.Kind.{Kind}
use Rattle.requests.specs.declared.Kind.TheVariants.{AssignUser, RevokeUser, AssignPermission, RevokePermission}
use Rattle.requests.specs.declared.Kind.TheVariants.{CreateRole, DeleteRole, InsertEdge, DeleteEdge}

-- the kinds by their numbers, from 0 on; 0 is none's
abbrev pub kinds : List (Option Kind)
kinds =
    None
    ∷ Some AssignUser
    ∷ Some RevokeUser
    ∷ Some AssignPermission
    ∷ Some RevokePermission
    ∷ Some CreateRole
    ∷ Some DeleteRole
    ∷ Some InsertEdge
    ∷ Some DeleteEdge
    ∷ []

-- the kind of a number; "kind not 1 to 8" is none's
abbrev pub kind_of : ℕ → Option Kind
kind_of k = get_or kinds k None
