-- Assumes nothing.
use native.Mathlib.Omega.{arith}
use Rattle.policy.proofs.Changes.{number_between}
use Rattle.entries.proofs.Laws.{bad_fits, bad_request, loaded_good, refused_request, after_ready, accepted_request}
use Rattle.entries.proofs.aestilumne_request.Goals as goal

pub of_bad_file-requires : goal.of_bad_file-requires
of_bad_file-requires c = bad_fits _ c.in-Err.ensures

pub returns-in-Err : goal.returns-in-Err
returns-in-Err c = bad_request _ c.in-Err.ensures c.of_bad_file.ensures _ _

pub change_of-requires : goal.change_of-requires
change_of-requires c = let good = loaded_good _ c.in-Ok.ensures.1 in (good.sizes, λ e. good)

pub carry_out-requires : goal.carry_out-requires
carry_out-requires c =
    let ready = after_ready _ c.in-Ok.ensures.1 _ c.in-Ok-change_of.change c.in-Ok-change_of.ensures in
    rw (c.changed.ensures, c.number-number.ensures) (ready.good, ready.number)

pub returns-in-Ok-change_of : goal.returns-in-Ok-change_of
returns-in-Ok-change_of c =
    let done = c.carry_out.ensures in
    accepted_request _ c.in-Ok.ensures.1 _ c.in-Ok-change_of.change c.in-Ok-change_of.ensures (rw (c.changed.ensures, c.number-number.ensures) at done)

pub of_refusal-requires : goal.of_refusal-requires
of_refusal-requires c = omega (arith, c.number.ensures, number_between c.in-Err-change_of.refused)

pub returns-in-Err-change_of : goal.returns-in-Err-change_of
returns-in-Err-change_of c =
    let told = c.of_refusal.ensures in
    refused_request _ c.in-Ok.ensures.1 _ _ c.in-Err-change_of.ensures (rw c.number.ensures at told)
