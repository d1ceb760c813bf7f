-- All kinds. Document 01, "The eight requests": "A request is an officer (user number), a kind, and numbers a and b."
use Rattle.std.specs.Prelude.{true, ℕ, Option, Some, None, Result, Ok, Err}
use Rattle.sets.specs.Tests.{◌or◌}
use Rattle.policy.specs.declared.Policy.{Policy}
use Rattle.policy.specs.declared.Refusal.{Refusal}
use Rattle.policy.specs.Outcome.{Answer, number, Refusals, accept, refuse, refused, accepted}
use Rattle.members.specs.Rules.{user_view, permission_view, assign_rules, revoke_rules, assign_user, revoke_user, assign_permission, revoke_permission}
use Rattle.hierarchy.specs.Rules.{site, named, some_in, create_rules, delete_rules, insert_rules, cut_rules, create_role, delete_role, insert_edge, delete_edge}
use Rattle.requests.specs.declared.Request.{Request}
use Rattle.requests.specs.declared.Accepted.{Accepted}
use Rattle.requests.specs.declared.Kind.{Kind}
use Rattle.requests.specs.declared.Kind.TheVariants.{AssignUser, RevokeUser, AssignPermission, RevokePermission}
use Rattle.requests.specs.declared.Kind.TheVariants.{CreateRole, DeleteRole, InsertEdge, DeleteEdge}
use Rattle.requests.specs.Kinds.{kind_of}

-- a request, from its four numbers
abbrev pub ask : ℕ → ℕ → ℕ → ℕ → Request
ask officer kind a b = record { officer = officer; kind = kind; a = a; b = b }

-- the answer to a request of each kind, from officer o with numbers a and b. Number 1: "kind not 1 to 8"
abbrev pub answer_to : Option Kind → Policy → ℕ → ℕ → ℕ → Answer
answer_to (Some AssignUser) p o a b = assign_user p o a b
answer_to (Some RevokeUser) p o a b = revoke_user p o a b
answer_to (Some AssignPermission) p o a b = assign_permission p o a b
answer_to (Some RevokePermission) p o a b = revoke_permission p o a b
answer_to (Some CreateRole) p o a b = create_role p o a b
answer_to (Some DeleteRole) p o a b = delete_role p o a b
answer_to (Some InsertEdge) p o a b = insert_edge p o a b
answer_to (Some DeleteEdge) p o a b = delete_edge p o a b
answer_to None p o a b = refused p 1

-- its refusals in their order
abbrev pub refusals_of : Option Kind → Policy → ℕ → ℕ → ℕ → Refusals
refusals_of (Some AssignUser) p o a b = assign_rules (user_view p p.tables.assign o a) b
refusals_of (Some RevokeUser) p o a b = revoke_rules (user_view p p.tables.revoke o a) b
refusals_of (Some AssignPermission) p o a b = assign_rules (permission_view p p.tables.assignp o a) b
refusals_of (Some RevokePermission) p o a b = revoke_rules (permission_view p p.tables.revokep o a) b
refusals_of (Some CreateRole) p o a b = create_rules (site p o) a b
refusals_of (Some DeleteRole) p o a b =
    delete_rules (site p o) (named p.tables p.modify a) (some_in p.people.users a or some_in p.permissions a) a b
refusals_of (Some InsertEdge) p o a b = insert_rules (site p o) a b
refusals_of (Some DeleteEdge) p o a b = cut_rules (site p o) a b
refusals_of None p o a b = refuse true 1 accept

-- the answer to any request: outcome, number beside it and policy after
unfoldable pub decide : Policy → Request → Answer
decide p q = answer_to (kind_of q.kind) p q.officer q.a q.b

-- the refusals of any request in their order
unfoldable pub rules_of : Policy → Request → Refusals
rules_of p q = refusals_of (kind_of q.kind) p q.officer q.a q.b

-- the answer that the code's decision stands for: "Each leaves the policy unchanged and returns number 0 beside it."
abbrev pub answered : Policy → Result Accepted Refusal → Answer
answered p (Ok a) = accepted a.policy a.number
answered p (Err r) = refused p (number r)
