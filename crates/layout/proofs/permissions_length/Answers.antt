use Prim.Native.Nat.{◌<◌}
use native.Mathlib.Omega.{arith}
use lib.Seq.{get_or-take}
use Rattle.number.specs.Number.{num_bytes}
use Rattle.layout.proofs.Counts.{count_none, count_step, count_room, count-over, front_in, front-over}
use Rattle.layout.proofs.Lengths.{permissions_most}
use Rattle.layout.specs.Layout.{permissions_bytes}
use borrow.Author.Rules.{rules}
use Rattle.layout.proofs.permissions_length.Goals as goal

pub loop-roles-init : goal.loop-roles-init
loop-roles-init c = count_none

pub overflow_add-n : goal.overflow_add-n
unfolding permissions_bytes
overflow_add-n c =
    let m = c.args.m in
    let next : c.loop-roles.roles-index < m.count = front_in m.roles c.loop-roles-test.true in
    let ens = c.number_len-n-in-loop-roles.ensures in
    let this = rw get_or-take at ens in
    omega (
      arith,
      count_room c.loop-roles.invariant (num_bytes m.count) next c.number_len-n.ensures this (permissions_most m c.requires),
    )

pub loop-roles-preserved : goal.loop-roles-preserved
loop-roles-preserved c =
    let m = c.args.m in
    let next : c.loop-roles.roles-index < m.count = front_in m.roles c.loop-roles-test.true in
    let ens = c.number_len-n-in-loop-roles.ensures in
    count_step c.loop-roles.invariant next (rw get_or-take at ens)

pub returns : goal.returns
unfolding permissions_bytes
returns c =
    let m = c.args.m in
    count-over c.loop-roles.invariant (num_bytes m.count) (front-over m.roles (search rules) c.loop-roles-test.false) c.number_len-n.ensures
