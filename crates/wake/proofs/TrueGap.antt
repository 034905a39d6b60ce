-- The gap is the true gap where that is below 2^32. Assumes nothing.
use Rattle.std.proofs.Common.{◌≡◌, ℕ, ◌-◌, ◌%◌, ◌^◌, ◌<◌, ◌≤◌, arith}
use Rattle.wake.specs.Wake.{gap_of}

-- Two true times, s and then t, as a clock of 32 bits shows them.
pub true_gap : (s t : ℕ) → s ≤ t → t - s < 2 ^ 32 → gap_of (s % 2 ^ 32) (t % 2 ^ 32) ≡ t - s
unfolding gap_of
true_gap s t h k = omega arith
