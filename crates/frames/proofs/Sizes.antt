-- The chain size: 1 to 16 exactly where it is not outside. Assumes nothing.
use mathlib.Core.Path.{◌≡◌}
use mathlib.Core.Bool.{false}
use Prim.Native.Nat.{ℕ, ◌≤◌}
use native.Mathlib.Omega.{arith}
use borrow.Author.Tests.{eqb-false, ltb-false, ne_eqb, le-ltb}
use lib.Dec.{eqb, ltb}
use Rattle.lent.proofs.Tests.{or_left, or_right}
use Rattle.frames.specs.Size.{outside}

pub at_most : (n : ℕ) → outside n ≡ false → n ≤ 16
unfolding outside
at_most n e = ltb-false 16 n (or_right (eqb n 0) (ltb 16 n) e)

pub at_least : (n : ℕ) → outside n ≡ false → 1 ≤ n
unfolding outside
at_least n e = let z = eqb-false n 0 (or_left (eqb n 0) (ltb 16 n) e) in omega arith

pub inside : (n : ℕ) → 1 ≤ n → n ≤ 16 → outside n ≡ false
unfolding outside
inside n l h = rw (ne_eqb n 0 (λ e. omega arith), le-ltb 16 n h)
