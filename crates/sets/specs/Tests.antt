-- Tests joined: and, or, not, implies, exactly if. They stay shut, so that a goal shows them as they are written; an `unfolding` line opens them.
use Rattle.std.specs.Prelude.{Bool, true, false}

infixr 35 ◌and◌
infixr 30 ◌or◌
infixr 25 ◌implies◌
infix 20 ◌iff◌
unfoldable pub ◌and◌ : Bool → Bool → Bool
true and b = b
false and b = false

unfoldable pub ◌or◌ : Bool → Bool → Bool
true or b = true
false or b = b

unfoldable pub neg : Bool → Bool
neg true = false
neg false = true

unfoldable pub ◌implies◌ : Bool → Bool → Bool
true implies b = b
false implies b = true

unfoldable pub ◌iff◌ : Bool → Bool → Bool
true iff true = true
true iff false = false
false iff true = false
false iff false = true

-- the first answer if the test passes, else the second
abbrev pub pick {ℓ} : {A : Type ℓ} → Bool → A → A → A
pick true x y = x
pick false x y = y
