-- The chain size N. Assumes nothing.
use Rattle.std.specs.Prelude.{ℕ, Bool, ◌||◌, eqb, ltb}

-- N is not 1..16
unfoldable pub outside : ℕ → Bool
outside n = eqb n 0 || ltb 16 n
