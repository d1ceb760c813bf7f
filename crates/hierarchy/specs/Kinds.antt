-- The kinds of request that change the hierarchy. Document 01, "The eight requests".
use Rattle.std.specs.Prelude.{ℕ}
use Rattle.hierarchy.specs.declared.HierarchyKind.{HierarchyKind}
use Rattle.hierarchy.specs.declared.HierarchyKind.TheVariants.{CreateRole, DeleteRole, InsertEdge, DeleteEdge}

-- the number of each kind
abbrev pub kind_number : HierarchyKind → ℕ
kind_number CreateRole = 5
kind_number DeleteRole = 6
kind_number InsertEdge = 7
kind_number DeleteEdge = 8
