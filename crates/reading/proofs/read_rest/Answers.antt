-- Assumes nothing.
use mathlib.Core.Path.{refl}
use Rattle.reading.proofs.Turns.{goes, stops, rest_given, rest_went}
use Rattle.reading.proofs.read_rest.Goals as goal

pub returns-in_err-assign : goal.returns-in_err-assign
returns-in_err-assign c = rest_given _ _ _ c.args.a _ _ (stops _ c.in_err-assign.ensures.read c.from_residual.ensures.1)

pub returns-in_err-revoke : goal.returns-in_err-revoke
returns-in_err-revoke c =
    rest_given _ _ _ c.args.a _ _
    (goes c.in_ok-assign.ensures.read c.in_ok-assign.ensures.stays
    (stops _ c.in_err-revoke.ensures.read c.from_residual-in_err-revoke.ensures.1))

pub returns-in_err-assignp : goal.returns-in_err-assignp
returns-in_err-assignp c =
    rest_given _ _ _ c.args.a _ _
    (goes c.in_ok-assign.ensures.read c.in_ok-assign.ensures.stays
    (goes c.in_ok-revoke.ensures.read c.in_ok-revoke.ensures.stays
    (stops _ c.in_err-assignp.ensures.read c.from_residual-in_err-assignp.ensures.1)))

pub returns-in_err-revokep : goal.returns-in_err-revokep
returns-in_err-revokep c =
    rest_given _ _ _ c.args.a _ _
    (goes c.in_ok-assign.ensures.read c.in_ok-assign.ensures.stays
    (goes c.in_ok-revoke.ensures.read c.in_ok-revoke.ensures.stays
    (goes c.in_ok-assignp.ensures.read c.in_ok-assignp.ensures.stays
    (stops _ c.in_err-revokep.ensures.read c.from_residual-in_err-revokep.ensures.1))))

pub returns-in_err-modify : goal.returns-in_err-modify
returns-in_err-modify c =
    rest_given _ _ _ c.args.a _ _
    (goes c.in_ok-assign.ensures.read c.in_ok-assign.ensures.stays
    (goes c.in_ok-revoke.ensures.read c.in_ok-revoke.ensures.stays
    (goes c.in_ok-assignp.ensures.read c.in_ok-assignp.ensures.stays
    (goes c.in_ok-revokep.ensures.read c.in_ok-revokep.ensures.stays
    (stops _ c.in_err-modify.ensures.read c.from_residual-in_err-modify.ensures.1)))))

pub returns : goal.returns
returns c = (
  _,
  rest_went c.args.a _ _ c.in_ok-assign.ensures.read c.in_ok-assign.ensures.stays c.in_ok-revoke.ensures.read c.in_ok-revoke.ensures.stays
      c.in_ok-assignp.ensures.read c.in_ok-assignp.ensures.stays c.in_ok-revokep.ensures.read c.in_ok-revokep.ensures.stays
      c.in_ok-modify.ensures.read,
  refl,
)
