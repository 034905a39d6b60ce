-- Two results that a statement of this crate allows are equal: the code built, the code taken apart. Assumes nothing.
use mathlib.Core.Path.{◌≡◌, sym, ap, ap₂, ◌∙◌}
use Prim.Native.Nat.{ℕ}
use lib.Dec.{eqb}
use Rattle.lent.specs.Refusal.{pick}
use Rattle.conversions.specs.Conversions.{pattern_at, fields, code_by, Builds, TakesApart}
use Rattle.conversions.specs.declared.Code.{Code}
use Rattle.conversions.specs.declared.Conversion.{Conversion}
use Rattle.conversions.proofs.ConversionLaws.{conversion_ext}

abbrev numbered : ℕ → ℕ → Code
numbered number code = record { number = number; code = code }

pub code_determined : (command mode discharge pull_up choice : ℕ) (r r' : Code)
    → Builds command mode discharge pull_up choice r → Builds command mode discharge pull_up choice r' → r ≡ r'
code_determined command mode discharge pull_up choice r r' b b' =
    let same : r.number ≡ r'.number = b.number ∙ sym b'.number in
    ap₂ numbered same
    (b.code ∙ ap (λ (x : ℕ). pick (eqb x 0) (code_by (pattern_at command) (fields mode discharge pull_up choice)) 0) same ∙ sym b'.code)

pub apart_determined : (code : ℕ) (s s' : Conversion) → TakesApart code s → TakesApart code s' → s ≡ s'
apart_determined code s s' t t' =
    conversion_ext s s'
    (t.number ∙ sym t'.number)
    (t.command ∙ sym t'.command)
    (t.mode ∙ sym t'.mode)
    (t.discharge ∙ sym t'.discharge)
    (t.pull_up ∙ sym t'.pull_up)
    (t.choice ∙ sym t'.choice)
