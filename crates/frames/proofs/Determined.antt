-- Two results that the writer's statement allows are equal. Assumes nothing.
use mathlib.Core.Path.{◌≡◌, sym, ap, ap₂, ◌∙◌}
use mathlib.Core.List.{List}
use Prim.Native.Nat.{ℕ}
use Rattle.lent.specs.declared.Written.{Written}
use Rattle.frames.specs.Writer.{writer_length, writer_out, Wrote}

abbrev written : ℕ → ℕ → Written
written number length = record { number = number; length = length }

pub writer_determined : (n code : ℕ) (bytes out : List ℕ) (r r' : Written) (after after' : List ℕ)
    → Wrote n code bytes out r after → Wrote n code bytes out r' after' → (r ≡ r') × (after ≡ after')
writer_determined n code bytes out r r' after after' w w' =
    let same : r.number ≡ r'.number = w.number ∙ sym w'.number in (
      ap₂ written same (w.long ∙ ap (λ (x : ℕ). writer_length x n code) same ∙ sym w'.long),
      w.output ∙ ap (λ (x : ℕ). writer_out x n code bytes out) same ∙ sym w'.output,
    )
