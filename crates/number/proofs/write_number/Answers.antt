use borrow.Author.Rules.{rules}
use lib.ListN.{length-set}
use Rattle.number.proofs.Bytes.{write_start, write_more, write_last, write_room, left_last}
use Rattle.number.proofs.write_number.Goals as goal

pub loop-v-init : goal.loop-v-init
loop-v-init c = write_start _ _ c.args.x (search rules)

pub bounds-out-i : goal.bounds-out-i
bounds-out-i c = write_room c.loop-v.invariant c.requires

pub loop-v-preserved : goal.loop-v-preserved
loop-v-preserved c = write_more c.loop-v.invariant c.loop-v-test.true

pub bounds-out-i-2 : goal.bounds-out-i-2
bounds-out-i-2 c = write_room c.loop-v.invariant c.requires

pub shape_of-out : goal.shape_of-out
shape_of-out c = simp length-set c.loop-v.invariant.long

pub returns : goal.returns
returns c =
    let k = c.loop-v.invariant in
    let l = c.loop-v-test.false in
    (left_last k.left l, write_last k l)
