-- The wake rule: how long to wait before a frame, as the port may be idle. Times are microseconds. Assumes nothing.
use Rattle.std.specs.Prelude.{◌≡◌, ℕ, ◌+◌, ◌-◌, ◌*◌, ◌%◌, ◌^◌, [], ◌∷◌, ◌==◌, nat_le}
use Rattle.lent.specs.Refusal.{pick, first}
use Rattle.frames.specs.Size.{outside}
use Rattle.wake.specs.declared.Wake.{Wake}

-- The gap is now minus last, modulo 2^32.
unfoldable pub gap_of : ℕ → ℕ → ℕ
gap_of last clock = (clock + 2 ^ 32 - last) % 2 ^ 32

-- From the idle limit up the port may be idle: the wait is 10 for each device (tREADY). Below, it is 0.
unfoldable pub wait_of : ℕ → ℕ → ℕ → ℕ
wait_of idle n gap = pick (nat_le idle gap) (10 * n) 0

-- the shortest tIDLE (documents 000 and 003)
abbrev pub idle_limit : ℕ
idle_limit = 4300

-- The number (01, "Numbers a call can come back with", Wake).
unfoldable pub wake_number : ℕ → ℕ
wake_number n = first ((outside n, 1) ∷ [])  -- N not 1..16

-- What `wait` promises: a refused wake gives wait 0.
pub record Waits (n last clock : ℕ) (r : Wake) : Type 0 where
  pub number : r.number ≡ wake_number n
  pub wait : r.wait ≡ pick (wake_number n == 0) (wait_of idle_limit n (gap_of last clock)) 0
