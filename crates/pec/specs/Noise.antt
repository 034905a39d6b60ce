-- Noise on bytes that pass, and how much of it may fall on one group. A mask has a 1 where a bit is flipped. Assumes nothing.
use Rattle.std.specs.Prelude.{ℕ, ◌+◌, ◌<◌, ◌≤◌, ◌≡◌, Bool, false, not, ◌||◌, ◌⊎◌, List, [], ◌∷◌, eqb, get_or}
use Rattle.std.specs.Int.Bits.{bit_xor}
use Rattle.pec.specs.Register.{bits}

-- What arrives of the bytes sent. A mask that is too short flips nothing past its end; what it has past the bytes flips nothing.
unfoldable pub noisy : List ℕ → List ℕ → List ℕ
noisy [] xs = xs
noisy (m ∷ ms) [] = []
noisy (m ∷ ms) (x ∷ xs) = bit_xor x m ∷ noisy ms xs

-- At least one bit is flipped.
unfoldable pub hit : List ℕ → Bool
hit [] = false
hit (m ∷ ms) = not (eqb m 0) || hit ms

-- Of a list of bits: how many are 1; and that all 1s lie within n neighbouring places, from the place s on.
abbrev pub count : List ℕ → ℕ
count [] = 0
count (b ∷ bs) = b + count bs

abbrev pub Within : ℕ → ℕ → List ℕ → Type 0
Within n s flips = (i : ℕ) → (i < s) ⊎ (s + n ≤ i) → get_or flips i 0 ≡ 0

-- The noise that is promised to show, by its flips in the order of the wire: at least one, and all within 15 neighbouring bits, wherever they lie.
pub data Noise (flips : List ℕ) : Type 0 where
  burst : (s : ℕ) → 0 < count flips → Within 15 s flips → Noise flips

-- What noise may do to one group: nothing, or what `Noise` names.
unfoldable pub Allowed : List ℕ → Type 0
Allowed mask = (hit mask ≡ false) ⊎ Noise (bits mask)
