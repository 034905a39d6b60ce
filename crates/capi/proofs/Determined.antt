-- Two numbers and two lent tallies at exit that the tally's statement allows are equal: both its parts are equations. The other entries
-- carry the records of the layers below, whose own Determined shows it. Assumes nothing.
use mathlib.Core.Path.{◌≡◌, sym, ◌∙◌}
use mathlib.Core.List.{List}
use Prim.Native.Nat.{ℕ}
use Rattle.tally.specs.declared.Tally.{Tally}
use Rattle.capi.specs.Lent.{AddsLent}

pub tally_add_determined : (t : Tally) (marks : List ℕ) (r r' : ℕ) (u u' : Tally) → AddsLent t marks r u → AddsLent t marks r' u' → (r ≡ r') × (u ≡ u')
tally_add_determined t marks r r' u u' w w' = (w.number ∙ sym w'.number, w.tally ∙ sym w'.tally)
