-- Assumes nothing.
use Rattle.parts.specs.Parts.{start_of, end_of}
use Rattle.parts.proofs.ends_of.Goals as goal

pub returns-in-Assign : goal.returns-in-Assign
unfolding start_of end_of
returns-in-Assign c = rw c.in-Assign.is

pub returns-in-Revoke : goal.returns-in-Revoke
unfolding start_of end_of
returns-in-Revoke c = rw c.in-Revoke.is

pub returns-in-Assignp : goal.returns-in-Assignp
unfolding start_of end_of
returns-in-Assignp c = rw c.in-Assignp.is

pub returns-in-Revokep : goal.returns-in-Revokep
unfolding start_of end_of
returns-in-Revokep c = rw c.in-Revokep.is

pub returns-in-Modify : goal.returns-in-Modify
unfolding start_of end_of
returns-in-Modify c = rw c.in-Modify.is
