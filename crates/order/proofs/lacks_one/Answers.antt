-- The loop takes the members of the row one by one: the row has all juniors of each that is taken.
-- Assumes nothing.
use Rattle.sets.proofs.Members.{left_begin, left_turn}
use Rattle.order.proofs.Loops.{left_member, lacks_found, lacks_none}
use borrow.Author.Rules.{rules}
use Rattle.order.proofs.lacks_one.Goals as goal

pub loop-rest-init : goal.loop-rest-init
loop-rest-init c = left_begin _ _

pub returns-then-not-subset : goal.returns-then-not-subset
returns-then-not-subset c =
    let x = c.args in
    let inv = c.loop-rest.invariant in
    lacks_found x.juniors.now _ _ _ inv (search rules) (left_member 64 _ _ inv (search rules) (search rules))
    (search rules)

pub loop-rest-smaller : goal.loop-rest-smaller
loop-rest-smaller c = c.without_lowest-rest.ensures.0

pub loop-rest-preserved : goal.loop-rest-preserved
loop-rest-preserved c =
    left_turn _ _ _ _ _ _ c.loop-rest.invariant c.without_lowest-rest.ensures.1 (λ n p. p)
    (search rules)

pub returns : goal.returns
returns c = lacks_none c.args.juniors.now _ _ c.loop-rest.invariant c.loop-rest-test.false
