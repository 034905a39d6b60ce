-- The digits, as the code works them out: a test computed over all of a kind, and carried to each. Assumes nothing.
use mathlib.Core.Path.{◌≡◌, refl, ap, ◌∙◌}
use mathlib.Core.Bool.{Bool}
use Prim.Native.Nat.{ℕ, ◌+◌, ◌-◌, ◌≤◌, ◌<◌}
use native.Mathlib.Omega.{arith}
use borrow.Author.Tests.{eqb-true}
use lib.Dec.{eqb}
use lib.ListN.{get_or}
use Rattle.lent.proofs.Tests.{each_below}
use Rattle.say.specs.Digits.{digits}

is_figure : ℕ → Bool
is_figure v = eqb (48 + v) (get_or digits v 0)

pub figure : (v : ℕ) → v < 10 → 48 + v ≡ get_or digits v 0
unfolding is_figure digits
figure v h = eqb-true (48 + v) (get_or digits v 0) (each_below is_figure 10 refl v h)

is_letter : ℕ → Bool
is_letter k = eqb (65 + k) (get_or digits (10 + k) 0)

pub letter : (v : ℕ) → 10 ≤ v → v < 16 → 55 + v ≡ get_or digits v 0
unfolding is_letter digits
letter v l h =
    let k = v - 10 in
    let sum : 55 + v ≡ 65 + k = omega arith in
    let place : 10 + k ≡ v = omega arith in
    sum ∙ eqb-true (65 + k) (get_or digits (10 + k) 0) (each_below is_letter 6 refl k (omega arith)) ∙ ap (λ (i : ℕ). get_or digits i 0) place
