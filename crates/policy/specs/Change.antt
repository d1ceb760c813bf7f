-- What a request decides, apart from the policy that it leaves: a policy and a change say what the policy after is.
use Rattle.std.specs.Prelude.{ℕ, Result, Ok, Err}
use Rattle.policy.specs.declared.Policy.{Policy}
use Rattle.policy.specs.declared.Refusal.{Refusal}
use Rattle.policy.specs.declared.Change.{Change}
use Rattle.policy.specs.declared.Change.TheVariants.{User, Permission, Hierarchy}
use Rattle.policy.specs.Build.{put_roles, with_roles, with_users, with_permissions}
use Rattle.policy.specs.Outcome.{Answer, number, refused, accepted}

-- the policy after a change that was asked with a user or permission a
abbrev pub changed : Policy → ℕ → Change → Policy
changed p a (User roles) = with_users p (put_roles p.people.users a roles)
changed p a (Permission roles) = with_permissions p (put_roles p.permissions a roles)
changed p a (Hierarchy order n) = with_roles p order

-- the number beside acceptance: "the new role's number for kind 5 and 0 otherwise"
abbrev pub beside : Change → ℕ
beside (User roles) = 0
beside (Permission roles) = 0
beside (Hierarchy order n) = n

-- the answer that a decision stands for: "Each leaves the policy unchanged and returns number 0 beside it."
abbrev pub decided : Policy → ℕ → Result Change Refusal → Answer
decided p a (Ok c) = accepted (changed p a c) (beside c)
decided p a (Err r) = refused p (number r)
