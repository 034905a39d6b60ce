-- 15 cannot be raised to 16: 01's own pair of right groups, which differ within 16 neighbouring bits. Assumes nothing.
use mathlib.Core.Path.{◌≡◌, refl, sym}
use mathlib.Core.Logic.{⊎_elim}
use mathlib.Core.Bool.{Bool, true, false, ◌&&◌, ◌||◌}
use mathlib.Core.List.{List, [], ◌∷◌}
use Prim.Native.Nat.{ℕ, ◌+◌, ◌<◌}
use native.Mathlib.Omega.{arith}
use borrow.Author.Tests.{eqb-true, leb-true, ltb-true, ltb-false}
use lib.Dec.{eqb, leb, ltb, lit<}
use lib.ListN.{length, get_or, get_or-eq_default}
use Rattle.lent.proofs.Tests.{and_left, and_right, below, each_below}
use Rattle.pec.specs.Register.{step, bits, remainder_of, pec_of}
use Rattle.pec.specs.Group.{body, sent, off_by, right}
use Rattle.pec.specs.Noise.{noisy, count, Within}

-- each 1 of the flips lies from s up to s + n: one computed test gives `Within`
inside : ℕ → ℕ → List ℕ → ℕ → Bool
inside n s flips i = eqb (get_or flips i 0) 0 || (leb s i && ltb i (s + n))

within_by : (n s : ℕ) (flips : List ℕ) → below (length flips) (inside n s flips) ≡ true → Within n s flips
unfolding inside
within_by n s flips t i outside = by_length (ltb i (length flips)) refl
  where
    chosen : (b : Bool) → b ≡ eqb (get_or flips i 0) 0 → (b || (leb s i && ltb i (s + n))) ≡ true → get_or flips i 0 ≡ 0
    chosen true e u = eqb-true (get_or flips i 0) 0 (sym e)
    chosen false e u =
        let low = leb-true s i (and_left (leb s i) (ltb i (s + n)) u) in
        let high = ltb-true i (s + n) (and_right (leb s i) (ltb i (s + n)) u) in
        absurd (⊎_elim (λ l. omega arith) (λ l. omega arith) outside)

    by_length : (b : Bool) → b ≡ ltb i (length flips) → get_or flips i 0 ≡ 0
    by_length true e = chosen (eqb (get_or flips i 0) 0) refl (each_below (inside n s flips) (length flips) t i (ltb-true i (length flips) (sym e)))
    by_length false e = get_or-eq_default flips 0 (ltb-false i (length flips) (sym e))

-- WRCFGA's command group, another right group, and the mask between them
abbrev one : List ℕ
one = 0x00 ∷ 0x01 ∷ 0x3D ∷ 0x6E ∷ []

abbrev other : List ℕ
other = 0x00 ∷ 0x00 ∷ 0xB6 ∷ 0x5C ∷ []

abbrev mask : List ℕ
mask = 0x00 ∷ 0x01 ∷ 0x8B ∷ 0x32 ∷ []

pub sharp : (right one ≡ true) × (right other ≡ true) × (noisy mask one ≡ other) × (0 < count (bits mask)) × Within 16 15 (bits mask)
unfolding right off_by sent body pec_of remainder_of step noisy inside
sharp = (refl, refl, refl, lit< tt, within_by 16 15 (bits mask) refl)
