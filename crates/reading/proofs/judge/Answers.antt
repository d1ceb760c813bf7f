-- Assumes nothing.
use mathlib.Core.Path.{◌∙◌}
use Rattle.reading.specs.Joined.{judgement}
use Rattle.reading.proofs.Turns.{how_stops, first_stops, next_asked}
use Rattle.reading.proofs.judge.Goals as goal

pub returns-in_err-nothing_left : goal.returns-in_err-nothing_left
unfolding judgement
returns-in_err-nothing_left c = how_stops _ _ c.from_residual.ensures.1 ∙ first_stops _ _ _ _ _ _ c.in_err-nothing_left.ensures

pub returns : goal.returns
unfolding judgement
returns c = c.no_fault.ensures ∙ next_asked _ _ _ _ c.in_ok-nothing_left.ensures
