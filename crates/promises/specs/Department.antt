-- The two policies of the P cases, as bytes.
use Rattle.std.specs.Prelude.{ℕ, List, [], ◌∷◌}

-- examples/F.policy: the engineering department
abbrev pub department_file : List ℕ
department_file =
    1 ∷ 255 ∷ 15 ∷ 0 ∷ 1 ∷ 3 ∷ 7 ∷ 7 ∷ 31 ∷ 3 ∷ 67 ∷ 67 ∷ 195 ∷ 3 ∷ 255 ∷ 7 ∷ 7 ∷ 6 ∷ 4 ∷ 0 ∷ 3 ∷ 0 ∷ 4 ∷ 0 ∷ 2 ∷ 2 ∷ 0 ∷ 0
    ∷ 1 ∷ 2 ∷ 2 ∷ 5 ∷ 1 ∷ 2 ∷ 0 ∷ 0 ∷ 0 ∷ 0 ∷ 3 ∷ 2 ∷ 2 ∷ 5 ∷ 2 ∷ 6 ∷ 9 ∷ 1 ∷ 1 ∷ 10 ∷ []

-- case 13: "Chain 0 < 1 < 2 < 3 < 4, rows (0, 2) and (1, 4) for the officer"
abbrev pub chain_file : List ℕ
chain_file = 1 ∷ 31 ∷ 0 ∷ 1 ∷ 3 ∷ 7 ∷ 15 ∷ 1 ∷ 0 ∷ 1 ∷ 0 ∷ 1 ∷ 0 ∷ 0 ∷ 0 ∷ 0 ∷ 0 ∷ 2 ∷ 0 ∷ 0 ∷ 2 ∷ 0 ∷ 1 ∷ 4 ∷ []
