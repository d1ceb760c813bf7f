-- The outcomes of kinds 5 to 8, by what they look at.
use Rattle.std.specs.Prelude.{◌≡◌, true, false, ℕ, ◌+◌, ◌/◌, ◌%◌, eqb}
use Rattle.sets.specs.Tests.{pick}
use Rattle.sets.specs.Sets.{has, set_of}
use Rattle.policy.specs.Outcome.{first}
use Rattle.hierarchy.specs.declared.Site.{Site}
use Rattle.hierarchy.specs.Rules.{create_rules, delete_rules, insert_rules, cut_rules}

-- tied is the set of the roles that 7 or 8 keeps
unfoldable pub site_outcome : Site → ℕ → ℕ → ℕ → ℕ → ℕ
site_outcome s tied kind a b =
    pick (eqb kind 5) (first (create_rules s a b)) (pick (eqb kind 6) (first (delete_rules s (has tied a) false a b))
    (pick (eqb kind 7) (first (insert_rules s a b)) (first (cut_rules s a b))))

-- each b with which a request would be accepted is a member
pub record ToDo (s : Site) (kind a set : ℕ) : Type 0 where
  pub each : (tied b : ℕ) → site_outcome s tied kind a b ≡ 0 → has set b ≡ true

-- the set of the b at place j of 4 times 64
unfoldable pub site_set : Site → ℕ → ℕ → ℕ
site_set s tied j = set_of 64 (λ b. eqb (site_outcome s tied (5 + j / 64) (j % 64) b) 0)
