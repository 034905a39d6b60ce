-- How a statement speaks of refusals: the first that applies is given, and in no other case. Assumes nothing.
use Rattle.std.specs.Prelude.{ℕ, Bool, true, false, List, [], ◌∷◌}

-- a where the test holds, b where not
unfoldable pub pick {ℓ} : {A : Type ℓ} → Bool → A → A → A
pick true a b = a
pick false a b = b

-- The number of the first line whose test holds, and 0, done, where none does.
unfoldable pub first : List (Bool × ℕ) → ℕ
first [] = 0
first (line ∷ lines) = pick line.0 line.1 (first lines)
