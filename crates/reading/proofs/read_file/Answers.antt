-- Assumes nothing.
use mathlib.Core.Path.{sym, ◌∙◌, ap}
use Rattle.std.specs.Prelude.{Err}
use Rattle.reader.specs.declared.Reader.{Reader}
use Rattle.reading.specs.File.{rest_at}
use Rattle.reading.proofs.Turns.{read_on, file_stops, judged_so, rest_refused, file_passed, file_went, ranges_fit}
use Rattle.reading.proofs.read_file.Goals as goal

pub returns-in_err-r : goal.returns-in_err-r
returns-in_err-r c =
    file_passed c.read_front.new.policy _ _ c.args.s _ c.new.ensures (Err _) (rw c.in_err-r.was at c.read_front.ensures) c.from_residual.ensures.1

pub returns-in_err-end : goal.returns-in_err-end
returns-in_err-end c =
    let front = rw c.new.ensures at c.in_ok-r.ensures.0 in
    let on = c.in_ok-r.ensures.1 ∙ ap (λ (r : Reader). r.bytes) c.new.ensures in
    let used = c.read_front.new.policy.orders in
    let rest = read_on (λ s. rest_at s used.roles.used used.admins.used c.in_ok-r.r.at) on (sym c.in_err-end.ensures) in
    file_stops _ _ _ c.from_residual-in_err-end.ensures.1 (rest_refused _ front rest)

pub judge-requires : goal.judge-requires
judge-requires c = let k = c.in_ok-end.ensures in rw k.2 (ranges_fit _ _ _ _ k.1)

pub returns : goal.returns
returns c =
    let front = c.in_ok-r.ensures in
    let k = c.in_ok-end.ensures in
    let e = c.judge.ensures in
    rw (file_went c.args.s _ c.in_ok-r.r c.new.ensures front.0 front.1 k.1, k.2) (judged_so _ _ _ _ _ (rw k.2 at e))
