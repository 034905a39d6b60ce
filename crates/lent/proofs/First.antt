-- Laws of `first`: where no refusal applies, no test holds. Assumes nothing.
use mathlib.Core.Path.{◌≡◌, refl}
use mathlib.Core.Bool.{Bool, true, false}
use mathlib.Core.List.{List, ◌∷◌}
use Prim.Native.Nat.{ℕ, suc}
use native.Mathlib.Omega.{arith}
use Rattle.lent.specs.Refusal.{pick, first}

pub none_first : (b : Bool) (m : ℕ) (lines : List (Bool × ℕ)) → first ((b, suc m) ∷ lines) ≡ 0 → (b ≡ false) × (first lines ≡ 0)
unfolding first pick
none_first true m lines e = absurd (omega arith)
none_first false m lines e = (refl, e)
