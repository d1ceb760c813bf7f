use native.Mathlib.Omega.{arith}
use borrow.Author.Rules.{rules}
use Rattle.number.proofs.Bytes.{left_start, left_last, left_more, bytes_most, length_first}
use Rattle.number.proofs.number_len.Goals as goal

pub loop-v-init : goal.loop-v-init
loop-v-init c = left_start c.args.x 1 (search rules)

pub overflow_add-n : goal.overflow_add-n
overflow_add-n c =
    let k = c.loop-v.invariant in
    omega (arith, k.total, bytes_most c.args.x, length_first k.n c.loop-v.v)

pub loop-v-preserved : goal.loop-v-preserved
loop-v-preserved c = (left_more c.loop-v.invariant c.loop-v-test.true).0

pub returns : goal.returns
returns c = omega (arith, left_last c.loop-v.invariant c.loop-v-test.false)
