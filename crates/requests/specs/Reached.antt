-- The policies that requests reach from a policy: that policy itself, and what each request leaves of one that is reached.
use Rattle.policy.specs.declared.Policy.{Policy}
use Rattle.requests.specs.declared.Request.{Request}
use Rattle.requests.specs.Requests.{decide}

pub data Reached (start : Policy) : Policy → Type 0 where
  here : Reached start start
  next : {p : Policy} (q : Request) → Reached start p → Reached start (decide p q).policy
