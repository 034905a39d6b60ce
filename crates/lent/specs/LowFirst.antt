-- A number of two bytes, low byte first, as cells and the wire log have it; and the number of any count of bytes, low byte first too. Assumes nothing.
use Rattle.std.specs.Prelude.{ℕ, ◌+◌, ◌*◌, ◌/◌, ◌%◌, List, [], ◌∷◌, get_or}

-- its two bytes
unfoldable pub low_first : ℕ → List ℕ
low_first n = n % 256 ∷ n / 256 ∷ []

-- the number that the two bytes from `at` on are
unfoldable pub low_first_at : List ℕ → ℕ → ℕ
low_first_at bytes at = get_or bytes at 0 + 256 * get_or bytes (at + 1) 0

-- the number that bytes are, low byte first, however many
unfoldable pub number_of : List ℕ → ℕ
number_of [] = 0
number_of (x ∷ xs) = x + 256 * number_of xs
