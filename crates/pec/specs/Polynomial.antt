-- The polynomial x^15 + x^14 + x^10 + x^8 + x^7 + x^4 + x^3 + 1, and the rule of the table over it. A number's bits are a polynomial's terms.
-- Assumes nothing.
use Rattle.std.specs.Prelude.{ℕ, zero, suc, ◌*◌, ◌/◌}
use Rattle.std.specs.Int.Bits.{bit_xor}

-- A polynomial below x^15 times x, reduced by the whole polynomial, 0xC599: taken off where x^15 comes up. And k times over.
unfoldable pub times_x : ℕ → ℕ
times_x p = bit_xor (p * 2) (p / 16384 * 0xC599)

abbrev pub times_xs : ℕ → ℕ → ℕ
times_xs zero p = p
times_xs (suc k) p = times_xs k (times_x p)

-- The table's rule: entry i is i times x^15, reduced.
unfoldable pub entry_of : ℕ → ℕ
entry_of i = times_xs 15 i
