-- Two results that one statement allows are equal, for each of the two entries: every part of a statement is an equation. Assumes nothing.
use mathlib.Core.Path.{◌≡◌, sym, ap₂, ◌∙◌}
use mathlib.Core.List.{List}
use Prim.Native.Nat.{ℕ}
use Rattle.std.specs.Prelude.{Option}
use Rattle.cells.specs.Cells.{ReadsCells}
use Rattle.cells.specs.Extremes.{Spans}
use Rattle.cells.specs.declared.Readings.{Readings}
use Rattle.cells.specs.declared.extremes.Range.{Range}

pub reading_determined : (groups marks : List ℕ) (r r' : Readings) → ReadsCells groups marks r → ReadsCells groups marks r' → r ≡ r'
reading_determined groups marks r r' w w' =
    ap₂ (λ (n : ℕ) (c : List ℕ). record { number = n; counts = c; valid = r.valid; unmeasured = r.unmeasured })
    (w.number ∙ sym w'.number) (w.counts ∙ sym w'.counts)
    ∙ ap₂ (λ (v u : ℕ). record { number = r'.number; counts = r'.counts; valid = v; unmeasured = u })
    (w.valid ∙ sym w'.valid) (w.unmeasured ∙ sym w'.unmeasured)

pub extremes_determined : (counts : List ℕ) (valid : ℕ) (r r' : Option Range) → Spans counts valid r → Spans counts valid r' → r ≡ r'
extremes_determined counts valid r r' w w' = w.range ∙ sym w'.range
