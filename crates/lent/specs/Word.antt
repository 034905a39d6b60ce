-- A word of bits, each by a test: the word that the chain returns, and the valid bits of the cells. Assumes nothing.
use Rattle.std.specs.Prelude.{ℕ, zero, suc, ◌+◌, ◌^◌, Bool}
use Rattle.lent.specs.Refusal.{pick}

-- of the bits 0 to n - 1, bit k is set where the test holds at k; no other bit
unfoldable pub bits_where : (ℕ → Bool) → ℕ → ℕ
bits_where test zero = 0
bits_where test (suc k) = bits_where test k + pick (test k) (2 ^ k) 0
