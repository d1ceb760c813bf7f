-- What a writer does with the buffer that it is lent.
use Rattle.std.specs.Prelude.{ℕ, ◌+◌, ◌≤◌, ◌≡◌, List, length}
use Rattle.std.proofs.lemmas.List.Edits.{sets}

-- there is room for bs from `at` on
pub record Room (bs : List ℕ) (at : ℕ) (out : List ℕ) : Type 0 where
  pub fits : at + length bs ≤ length out

-- bs stand from `at` on, up to `past`, and all other bytes are as they were
pub record Wrote (bs : List ℕ) (at : ℕ) (before : List ℕ) (past : ℕ) (after : List ℕ) : Type 0 where
  pub place : past ≡ at + length bs
  pub bytes : after ≡ sets before at bs
