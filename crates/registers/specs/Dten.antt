-- DTEN: bit 1 of the first byte of CFGA, group 0 (02, K5). No other group has it. Assumes nothing.
use Rattle.std.specs.Prelude.{ℕ, ◌+◌, ◌*◌, ◌/◌, ◌%◌, ◌≤◌, ◌≡◌, List, eqb, get_or, set}
use Rattle.lent.specs.Refusal.{pick}

-- the bit, of the bytes of CFGA
unfoldable pub dten : List ℕ → ℕ
dten bytes = get_or bytes 0 0 / 2 % 2

-- a byte with bit 1 put to `bit`: bits 7 to 2 and bit 0 are its own
unfoldable pub with_bit : ℕ → ℕ → ℕ
with_bit bit byte = byte / 4 * 4 + 2 * bit + byte % 2

-- the bytes of group g with DTEN put to `bit`
unfoldable pub with_dten : ℕ → ℕ → List ℕ → List ℕ
with_dten g bit bytes = pick (eqb g 0) (set bytes 0 (with_bit bit (get_or bytes 0 0))) bytes

-- Bit 1 of a byte is put to b, and its other bits are left, 7 to 2 and 0. (The other five bytes of CFGA are not concerned: that makes "the other 47 bits".)
abbrev pub OneBit : Type 0
OneBit = (b x : ℕ) → b ≤ 1 → (with_bit b x / 2 % 2 ≡ b) × (with_bit b x / 4 ≡ x / 4) × (with_bit b x % 2 ≡ x % 2)
