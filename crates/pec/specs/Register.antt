-- The check word, bit by bit: a register of 15 bits that starts at 16 and takes the bits of each byte from the highest down. Assumes nothing.
use Rattle.std.specs.Prelude.{ℕ, ◌*◌, ◌/◌, ◌%◌, List, [], ◌∷◌, ◌++◌}
use Rattle.std.specs.Int.Bits.{bit_xor}

-- One bit b into the register r: shift; where what leaves at the top differs from b, take the polynomial off, 0x4599 without its top term.
unfoldable pub step : ℕ → ℕ → ℕ
step r b = bit_xor (r * 2 % 32768) (bit_xor (r / 16384) b % 2 * 0x4599)

-- The bits of a list, one after the other.
abbrev pub feed : ℕ → List ℕ → ℕ
feed r [] = r
feed r (b ∷ bs) = feed (step r b) bs

-- The bits of a byte, the highest first; and of each byte of a list in turn: the order of the wire.
abbrev pub bits8 : ℕ → List ℕ
bits8 x = x / 128 % 2 ∷ x / 64 % 2 ∷ x / 32 % 2 ∷ x / 16 % 2 ∷ x / 8 % 2 ∷ x / 4 % 2 ∷ x / 2 % 2 ∷ x % 2 ∷ []

abbrev pub bits : List ℕ → List ℕ
bits [] = []
bits (x ∷ xs) = bits8 x ++ bits xs

-- The 15-bit remainder, which starts at 16; and the check word as it is sent: the remainder times 2, so its lowest bit is 0.
unfoldable pub remainder_of : List ℕ → ℕ
remainder_of xs = feed 16 (bits xs)

unfoldable pub pec_of : List ℕ → ℕ
pec_of xs = remainder_of xs * 2
