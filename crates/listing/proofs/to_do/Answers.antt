-- Assumes nothing.
use Rattle.listing.proofs.Laws.{none_to_do, senior_to_do, delete_to_do, insert_to_do}
use Rattle.listing.proofs.to_do.Goals as goal

pub returns-then-not-has : goal.returns-then-not-has
returns-then-not-has c = none_to_do _ _ _ (cc)

pub returns-in-CreateRole : goal.returns-in-CreateRole
returns-in-CreateRole c = senior_to_do _ _ _ c.in-CreateRole.is

pub returns-in-DeleteRole : goal.returns-in-DeleteRole
returns-in-DeleteRole c = rw c.in-DeleteRole.is (delete_to_do _ _)

pub returns-in-InsertEdge : goal.returns-in-InsertEdge
returns-in-InsertEdge c = rw c.in-InsertEdge.is (insert_to_do _ _ c.args.ground.now.above _ _ c.minus.ensures c.minus-in-InsertEdge.ensures)
