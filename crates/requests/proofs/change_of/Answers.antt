-- Assumes nothing.
use mathlib.Core.Path.{◌∙◌}
use Rattle.requests.specs.declared.Kind.TheVariants.{AssignUser, RevokeUser, AssignPermission, RevokePermission}
use Rattle.requests.specs.declared.Kind.TheVariants.{CreateRole, DeleteRole, InsertEdge, DeleteEdge}
use Rattle.requests.proofs.ByKind.{by_kind, no_kind}
use Rattle.requests.proofs.change_of.Goals as goal

pub returns-in_default : goal.returns-in_default
returns-in_default c = no_kind _ _ c.in_default.ensures

pub returns-in-AssignUser : goal.returns-in-AssignUser
returns-in-AssignUser c = c.assign_user.ensures ∙ by_kind _ _ AssignUser c.in-Ok.ensures c.in-AssignUser.is

pub returns-in-RevokeUser : goal.returns-in-RevokeUser
returns-in-RevokeUser c = c.revoke_user.ensures ∙ by_kind _ _ RevokeUser c.in-Ok.ensures c.in-RevokeUser.is

pub returns-in-AssignPermission : goal.returns-in-AssignPermission
returns-in-AssignPermission c = c.assign_permission.ensures ∙ by_kind _ _ AssignPermission c.in-Ok.ensures c.in-AssignPermission.is

pub returns-in-RevokePermission : goal.returns-in-RevokePermission
returns-in-RevokePermission c = c.revoke_permission.ensures ∙ by_kind _ _ RevokePermission c.in-Ok.ensures c.in-RevokePermission.is

pub returns-in-CreateRole : goal.returns-in-CreateRole
returns-in-CreateRole c = c.create_role.ensures ∙ by_kind _ _ CreateRole c.in-Ok.ensures c.in-CreateRole.is

pub returns-in-DeleteRole : goal.returns-in-DeleteRole
returns-in-DeleteRole c = c.delete_role.ensures ∙ by_kind _ _ DeleteRole c.in-Ok.ensures c.in-DeleteRole.is

pub returns-in-InsertEdge : goal.returns-in-InsertEdge
returns-in-InsertEdge c = c.insert_edge.ensures ∙ by_kind _ _ InsertEdge c.in-Ok.ensures c.in-InsertEdge.is

pub returns-in-DeleteEdge : goal.returns-in-DeleteEdge
returns-in-DeleteEdge c = c.delete_edge.ensures ∙ by_kind _ _ DeleteEdge c.in-Ok.ensures c.in-DeleteEdge.is
