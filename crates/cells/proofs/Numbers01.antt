-- The numbers of document 01 that are marked P, as one table: each value worked out from its definition, beside the number on paper. Assumes nothing.
use mathlib.Core.Path.{◌≡◌, refl}
use mathlib.Core.List.{[], ◌∷◌}
use lib.ListN.{get_or}
use Rattle.lent.specs.LowFirst.{low_first_at}
use Rattle.pec.specs.Register.{step, remainder_of, pec_of}
use Rattle.pec.specs.Polynomial.{times_x, entry_of}
use Rattle.pec.specs.Remainders.{remainders}
use Rattle.cells.specs.Cells.{count_at}

pub numbers :
    -- check words
    (pec_of [] ≡ 0x0020)
    × (pec_of (0x00 ∷ []) ≡ 0x2000)
    × (pec_of (0x01 ∷ []) ≡ 0xAB32)
    × (pec_of (0x20 ∷ []) ≡ 0x965C)
    × (pec_of (0x00 ∷ 0x00 ∷ []) ≡ 0xB65C)
    × (pec_of (0x00 ∷ 0x01 ∷ []) ≡ 0x3D6E)
    × (pec_of (0x00 ∷ 0x02 ∷ []) ≡ 0x2B0A)
    × (pec_of (0x00 ∷ 0x04 ∷ []) ≡ 0x07C2)
    × (pec_of (0x07 ∷ 0x11 ∷ []) ≡ 0xC9C0)
    × (pec_of (0x00 ∷ 0x00 ∷ 0x00 ∷ 0x00 ∷ 0x00 ∷ 0x00 ∷ []) ≡ 0xC212)
    -- table entries, by the polynomial's rule and as the table has them
    × (entry_of 1 ≡ 0x4599)
    × (entry_of 2 ≡ 0x4EAB)
    × (entry_of 128 ≡ 0x2213)
    × (get_or remainders 1 0 ≡ 0x4599)
    × (get_or remainders 2 0 ≡ 0x4EAB)
    × (get_or remainders 128 0 ≡ 0x2213)
    -- cell bytes 10 A4
    × (count_at (0x10 ∷ 0xA4 ∷ []) 0 ≡ 42000)
unfolding step remainder_of pec_of times_x entry_of remainders count_at low_first_at
numbers = (refl, refl, refl, refl, refl, refl, refl, refl, refl, refl, refl, refl, refl, refl, refl, refl, refl)
