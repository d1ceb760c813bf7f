-- Assumes nothing.
use Rattle.reading.proofs.Laws.{a_fault}
use Rattle.reading.proofs.no_fault.Goals as goal

pub returns-in-Some : goal.returns-in-Some
returns-in-Some c = rw (← c.in-Some.ensures, a_fault c.in-Some.fault)

pub returns-in-None : goal.returns-in-None
returns-in-None c = rw (← c.in-None.ensures)
