-- Room in a count of a tally: it passes the limit, or a `u32` holds it. Assumes nothing.
use Rattle.std.proofs.Common.{◌≡◌, ◌<◌, ℕ, true, false, arith}
use borrow.Author.Tests.{lt-ltb, le-ltb}
use Rattle.tally.specs.Tally.{past}

pub over : (n : ℕ) → (n < 4294967296 → ⊥) → past n ≡ true
unfolding past
over n h = lt-ltb 4294967295 n (omega (arith, h))

pub held : (n : ℕ) → n < 4294967296 → past n ≡ false
unfolding past
held n h = le-ltb 4294967295 n (omega arith)
