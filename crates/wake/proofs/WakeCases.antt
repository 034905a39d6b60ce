-- What `wait` promises, case by case of the code's tests. Assumes nothing.
use Rattle.std.proofs.Common.{◌≡◌, ℕ, ◌*◌, ◌<◌, ◌≤◌, true, false, le-leb}
use borrow.Author.Tests.{lt-leb}
use Rattle.lent.specs.Refusal.{pick, first}
use Rattle.frames.specs.Size.{outside}
use Rattle.wake.specs.Wake.{gap_of, wait_of, idle_limit, wake_number, Waits}

module _ (n last clock : ℕ) where
  pub refused : outside n ≡ true → Waits n last clock (record { number = 1; wait = 0 })
  unfolding wake_number first pick
  refused o = record { number = simp o; wait = simp o }

  module _ (o : outside n ≡ false) where
    pub fresh : gap_of last clock < idle_limit → Waits n last clock (record { number = 0; wait = 0 })
    unfolding wake_number wait_of first pick
    fresh h = record { number = simp o; wait = simp (o, lt-leb idle_limit (gap_of last clock) h) }

    pub idle : idle_limit ≤ gap_of last clock → Waits n last clock (record { number = 0; wait = 10 * n })
    unfolding wake_number wait_of first pick
    idle h = record { number = simp o; wait = simp (o, le-leb idle_limit (gap_of last clock) h) }
