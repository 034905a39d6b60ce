-- What is printed: of a byte its two digits, and of a number those of its eight digits that are asked for or have a digit other than 0 at them or above.
-- Assumes nothing.
use Rattle.std.specs.Prelude.{ℕ, zero, suc, List, [], ◌∷◌, ◌++◌, ◌/◌, ◌%◌, ◌*◌, ◌^◌, ◌&&◌, eqb, leb, get_or, flat_map}
use Rattle.lent.specs.Refusal.{pick}
use Rattle.say.specs.Digits.{digits}

unfoldable pub digit_text : ℕ → List ℕ
digit_text value = get_or digits (value % 16) 0 ∷ []

unfoldable pub byte_text : ℕ → List ℕ
byte_text byte = digit_text (byte / 16) ++ digit_text byte

-- a dash where there are none
unfoldable pub bytes_text : List ℕ → List ℕ
bytes_text [] = 0x2D ∷ []
bytes_text (byte ∷ bytes) = flat_map byte_text (byte ∷ bytes)

-- four bits to a place; place 0 is the last
unfoldable pub place_text : ℕ → ℕ → ℕ → List ℕ
place_text number width place =
    let rest = number / 2 ^ (4 * place) in
    pick (eqb rest 0 && leb width place) [] (digit_text rest)

-- of the places below the k-th, the highest first
unfoldable pub low_text : ℕ → ℕ → ℕ → List ℕ
low_text number width zero = []
low_text number width (suc place) = place_text number width place ++ low_text number width place

unfoldable pub hex_text : ℕ → ℕ → List ℕ
hex_text number width = low_text number width 8
