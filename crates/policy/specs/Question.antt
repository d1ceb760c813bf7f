-- The permission question. Document 01, "Order, ranges, tables" and "Outcome numbers".
use Rattle.std.specs.Prelude.{Bool, true, false, ℕ, leb, get_or, Result, Ok, Err}
use Rattle.sets.specs.Tests.{◌and◌, ◌or◌, pick}
use Rattle.sets.specs.Sets.{has, any}
use Rattle.order.specs.Order.{Relation, senior, reaches}
use Rattle.policy.specs.declared.Policy.{Policy}
use Rattle.policy.specs.declared.Refusal.{Refusal}
use Rattle.policy.specs.declared.Refusal.TheVariants.{UnknownName}

-- "A user may exercise a permission if some role held explicitly by the user equals, or is senior to, some role the permission is explicitly in."
unfoldable pub may_exercise : Relation → ℕ → ℕ → Bool
may_exercise f held granted = any 64 (λ x. has granted x and reaches f held x)

-- "The permission question gives 2 by that number's rule, else yes or no."
unfoldable pub question : Policy → ℕ → ℕ → Result Bool Refusal
question p user permission =
    pick (leb p.people.users.count user or leb p.permissions.count permission) (Err UnknownName)
    (Ok (may_exercise (senior p.orders.roles.juniors) (get_or p.people.users.roles user 0) (get_or p.permissions.roles permission 0)))

-- the value of each reply; its outcome is that of any refusal
unfoldable pub reply_value : Result Bool Refusal → ℕ
reply_value (Ok true) = 1
reply_value (Ok false) = 0
reply_value (Err r) = 0
