-- A list copied over the start of a list of zeros is padded with them.
-- Assumes nothing.
use mathlib.Core.Path.{◌≡◌, ap, ◌∙◌}
use mathlib.Core.List.{List, ◌++◌}
use Prim.Native.Nat.{ℕ}
use lib.ListN.{length, drop, replicate}
use Rattle.std.proofs.lemmas.List.{drop-replicate}
use Rattle.requests.specs.Examples.{padded}

pub pads : (w : ℕ) (l front : List ℕ) → front ≡ l → front ++ drop (length l) (replicate w 0) ≡ padded w 0 l
pads w l front e =
    ap (λ (f : List ℕ). f ++ drop (length l) (replicate w 0)) e
    ∙ ap (λ (r : List ℕ). l ++ r) (drop-replicate (length l) w 0)
