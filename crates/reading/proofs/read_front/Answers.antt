-- Assumes nothing.
use mathlib.Core.Path.{sym}
use lib.Dec.{eqb}
use Rattle.std.proofs.Common.{rules}
use Rattle.std.specs.Prelude.{Ok}
use Rattle.reading.specs.File.{one_at}
use Rattle.reading.proofs.Turns.{goes, stops, front_stops, no_one, front_passed, front_went}
use Rattle.reading.proofs.read_front.Goals as goal

pub returns-in_err-a : goal.returns-in_err-a
unfolding one_at
returns-in_err-a c =
    let one = sym (c.in_err-a.ensures.read (λ x. eqb x 1) (λ x b h p. search rules)) in
    front_stops _ _ _ _ c.from_residual.ensures.1 (no_one _ _ one)

pub returns-in_err-roles : goal.returns-in_err-roles
unfolding one_at
returns-in_err-roles c =
    front_passed _ _ c.args.r (Ok (_, c.in_ok-a.a)) (c.in_ok-a.ensures.read (λ x. eqb x 1) (λ x b h p. search rules)) c.in_ok-a.ensures.stays
    (stops _ (rw c.in_err-roles.was at c.order.ensures.read) c.from_residual-in_err-roles.ensures.1)

pub returns-in_err-admins : goal.returns-in_err-admins
unfolding one_at
returns-in_err-admins c =
    front_passed _ _ c.args.r (Ok (_, c.in_ok-a.a)) (c.in_ok-a.ensures.read (λ x. eqb x 1) (λ x b h p. search rules)) c.in_ok-a.ensures.stays
    (goes c.in_ok-roles.ensures.read c.in_ok-roles.ensures.stays
    (stops _ c.in_err-admins.ensures.read c.from_residual-in_err-admins.ensures.1))

pub returns-in_err-people : goal.returns-in_err-people
unfolding one_at
returns-in_err-people c =
    front_passed _ _ c.args.r (Ok (_, c.in_ok-a.a)) (c.in_ok-a.ensures.read (λ x. eqb x 1) (λ x b h p. search rules)) c.in_ok-a.ensures.stays
    (goes c.in_ok-roles.ensures.read c.in_ok-roles.ensures.stays
    (goes c.in_ok-admins.ensures.read c.in_ok-admins.ensures.stays
    (stops _ c.in_err-people.ensures.read c.from_residual-in_err-people.ensures.1)))

pub returns-in_err-permissions : goal.returns-in_err-permissions
unfolding one_at
returns-in_err-permissions c =
    front_passed _ _ c.args.r (Ok (_, c.in_ok-a.a)) (c.in_ok-a.ensures.read (λ x. eqb x 1) (λ x b h p. search rules)) c.in_ok-a.ensures.stays
    (goes c.in_ok-roles.ensures.read c.in_ok-roles.ensures.stays
    (goes c.in_ok-admins.ensures.read c.in_ok-admins.ensures.stays
    (goes c.in_ok-people.ensures.read c.in_ok-people.ensures.stays
    (stops _ c.in_err-permissions.ensures.read c.from_residual-in_err-permissions.ensures.1))))

pub returns : goal.returns
unfolding one_at
returns c =
    let one = sym (c.in_ok-a.ensures.read (λ x. eqb x 1) (λ x b h p. search rules)) in
    front_went c.args.r one c.in_ok-a.ensures.stays c.in_ok-roles.ensures.read c.in_ok-roles.ensures.stays
    c.in_ok-admins.ensures.read c.in_ok-admins.ensures.stays c.in_ok-people.ensures.read c.in_ok-people.ensures.stays
    c.in_ok-permissions.ensures.read c.in_ok-permissions.ensures.stays
