-- Every P case of document 01 is right: outcome, number and the whole policy after, computed.
-- Assumes nothing.
use mathlib.Core.Path.{◌≡◌, refl}
use mathlib.Core.List.{map}
use Prim.Native.Nat.{ℕ}
use Rattle.ranges.proofs.Opened.{effects_opened, ranges_opened}
use Rattle.policy.specs.Outcome.{first, answer}
use Rattle.members.specs.Rules.{user_view, permission_view, covers, satisfied, unknown, covered}
use Rattle.members.specs.Rules.{granted, assign_rules, revoke_rules, with_role, without_role}
use Rattle.members.specs.Rules.{assign_user, revoke_user, assign_permission, revoke_permission}
use Rattle.hierarchy.specs.Rules.{site, create_in, edge_in, row_allows, may_modify, unknown_role, unknown_pair, full}
use Rattle.hierarchy.specs.Rules.{new_role, spoils, row_names, table_names, ranges_name, named, some_in, create_rules}
use Rattle.hierarchy.specs.Rules.{delete_rules, insert_rules, cut_rules, create_role, delete_role, insert_edge, delete_edge}
use Rattle.requests.specs.Requests.{decide}
use Rattle.requests.specs.Examples.{F, chain, Case}
use Rattle.requests.specs.Cases.{cases}

-- ---- what a decision computes with, in one place: whoever unfolds `rules_opened` unfolds all that it names

members_opened : ℕ
unfolding user_view permission_view covers satisfied unknown covered granted assign_rules revoke_rules with_role without_role
members_opened = 0

site_opened : ℕ
unfolding site create_in edge_in row_allows may_modify unknown_role unknown_pair full new_role spoils row_names table_names ranges_name named some_in
site_opened = 0

hierarchy_opened : ℕ
unfolding site_opened create_rules delete_rules insert_rules cut_rules create_role delete_role insert_edge delete_edge
hierarchy_opened = 0

kinds_opened : ℕ
unfolding first answer assign_user revoke_user assign_permission revoke_permission decide
kinds_opened = 0

unfoldable pub rules_opened : ℕ
unfolding effects_opened ranges_opened members_opened hierarchy_opened kinds_opened
rules_opened = 0

-- ---- the cases

pub every_case : map (λ (c : Case). decide c.before c.request) cases ≡ map (λ (c : Case). c.answer) cases
unfolding rules_opened F chain cases
every_case = refl
