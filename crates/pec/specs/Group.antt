-- A group on the wire: data, then two bytes that are their check word, high byte first. Assumes nothing.
use Rattle.std.specs.Prelude.{ℕ, ◌+◌, ◌-◌, ◌*◌, ◌/◌, ◌%◌, Bool, List, [], ◌∷◌, ◌++◌, eqb, length, get_or, take}
use Rattle.std.specs.Int.Bits.{bit_xor}
use Rattle.pec.specs.Register.{pec_of}

-- the two bytes of a 16-bit number
unfoldable pub two_bytes : ℕ → List ℕ
two_bytes w = w / 256 ∷ w % 256 ∷ []

-- data with their check word
unfoldable pub with_pec : List ℕ → List ℕ
with_pec d = d ++ two_bytes (pec_of d)

-- the data of a group, and the word that was sent with them
unfoldable pub body : List ℕ → List ℕ
body g = take (length g - 2) g

unfoldable pub sent : List ℕ → ℕ
sent g = get_or g (length g - 2) 0 * 256 + get_or g (length g - 1) 0

-- How the word sent and the word worked out differ, in 16 bits.
unfoldable pub off_by : List ℕ → ℕ
off_by g = bit_xor (sent g) (pec_of (body g))

-- A group is right exactly if all 16 sent bits agree, the closing 0 included.
unfoldable pub right : List ℕ → Bool
right g = eqb (off_by g) 0
