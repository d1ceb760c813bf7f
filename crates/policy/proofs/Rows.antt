-- The rows of a table, or the members, that are in use: what the library says of the front of a list, and the definitions of each number below a
-- count.
-- Assumes nothing.
use mathlib.Core.Path.{◌≡◌, refl, sym, ap, ◌∙◌}
use mathlib.Core.Bool.{Bool, true, false, ◌||◌}
use mathlib.Core.List.{List}
use Prim.Native.Nat.{ℕ, zero, suc, ◌≤◌}
use native.Mathlib.Omega.{arith}
use lib.ListN.{length, get_or}
use Rattle.std.specs.Prelude.{take}
use Rattle.std.proofs.Common.{add-one}
use Rattle.std.specs.List.{list_any}
use Rattle.std.proofs.lemmas.List.Folds.{list_any_more}
use Rattle.sets.specs.Tests.{◌or◌}
use Rattle.sets.specs.Sets.{any}

or_is : (a b : Bool) → (a || b) ≡ (a or b)
unfolding ◌or◌
or_is true b = refl
or_is false b = refl

-- some row of the first n passes the test
pub any_front : {X : Type 0} (p : X → Bool) (xs : List X) (d : X) (n : ℕ) → n ≤ length xs → list_any p (take n xs) ≡ any n (λ i. p (get_or xs i d))
unfolding any
any_front p xs d zero h = refl
any_front p xs d (suc n) h =
    ap (λ k. list_any p (take k xs)) (sym (add-one n))
    ∙ list_any_more p xs n d h
    ∙ or_is _ _
    ∙ ap (λ (t : Bool). t or p (get_or xs n d)) (any_front p xs d n (omega arith))
