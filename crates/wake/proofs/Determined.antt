-- Two results that the statement of `wait` allows are equal: every part of it is an equation. Assumes nothing.
use Rattle.std.proofs.Common.{◌≡◌, ℕ, sym, ◌∙◌, ap₂}
use Rattle.wake.specs.Wake.{Waits}
use Rattle.wake.specs.declared.Wake.{Wake}

pub wait_determined : (n last clock : ℕ) (r r' : Wake) → Waits n last clock r → Waits n last clock r' → r ≡ r'
wait_determined n last clock r r' w w' = ap₂ (λ (n : ℕ) (t : ℕ). record { number = n; wait = t }) (w.number ∙ sym w'.number) (w.wait ∙ sym w'.wait)
