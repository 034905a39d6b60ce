-- Two results that the statement of `add` allows are equal: every part of it is an equation. Assumes nothing.
use mathlib.Core.Path.{◌≡◌, sym, ap₂, ◌∙◌}
use mathlib.Core.List.{List}
use Prim.Native.Nat.{ℕ}
use Rattle.tally.specs.Tally.{Added, Adds}
use Rattle.tally.specs.declared.Tally.{Tally}

pub add_determined : (t : Tally) (marks : List ℕ) (r r' : Added) → Adds t marks r → Adds t marks r' → r ≡ r'
add_determined t marks r r' w w' = ap₂ (λ (n : ℕ) (x : Tally). record { number = n; tally = x }) (w.number ∙ sym w'.number) (w.tally ∙ sym w'.tally)
