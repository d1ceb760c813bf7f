use Rattle.std.proofs.Common.{sym, arith, length-take-le}
use Rattle.vectors.proofs.Laws.{never}
use Rattle.vectors.proofs.agree.starts.Goals as goal

pub slice_bounds-same-end : goal.slice_bounds-same-end
slice_bounds-same-end c = sym (length-take-le _ _ (omega arith))
