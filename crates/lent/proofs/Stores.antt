-- Stores one after the other: six lay six bytes over the start of a part. Assumes nothing.
use mathlib.Core.Path.{◌≡◌, refl, ap, ◌∙◌}
use mathlib.Core.List.{List, [], ◌∷◌}
use Prim.Native.Nat.{ℕ, ◌≤◌}
use native.Mathlib.Nat.{zero-add}
use native.Mathlib.Omega.{arith}
use lib.ListN.{length, get_or}
use lib.Seq.{sets, sets-eq}
use Rattle.lent.specs.Memory.{over}

-- a list of six, element by element
six_elements : (xs : List ℕ) → length xs ≡ 6 → get_or xs 0 0 ∷ get_or xs 1 0 ∷ get_or xs 2 0 ∷ get_or xs 3 0 ∷ get_or xs 4 0 ∷ get_or xs 5 0 ∷ [] ≡ xs
six_elements [] h = absurd (omega arith)
six_elements (a ∷ []) h = absurd (omega arith)
six_elements (a ∷ b ∷ []) h = absurd (omega arith)
six_elements (a ∷ b ∷ c ∷ []) h = absurd (omega arith)
six_elements (a ∷ b ∷ c ∷ d ∷ []) h = absurd (omega arith)
six_elements (a ∷ b ∷ c ∷ d ∷ e ∷ []) h = absurd (omega arith)
six_elements (a ∷ b ∷ c ∷ d ∷ e ∷ f ∷ []) h = refl
six_elements (a ∷ b ∷ c ∷ d ∷ e ∷ f ∷ g ∷ xs) h = absurd (omega arith)

pub six_stored : (xs part : List ℕ) → length xs ≡ 6 → 6 ≤ length part
    → sets part 0 (get_or xs 0 0 ∷ get_or xs 1 0 ∷ get_or xs 2 0 ∷ get_or xs 3 0 ∷ get_or xs 4 0 ∷ get_or xs 5 0 ∷ []) ≡ over xs part
unfolding over
six_stored xs part h k = ap (sets part 0) (six_elements xs h) ∙ sets-eq xs part 0 (omega arith) ∙ rw zero-add
