-- The lent state of n devices, each with groups 0 to 17 of six bytes and behind them its DTEN pin, one byte that is 0 or 1 (02, K5). Device k of 01 has the
-- index k - 1 here. Assumes nothing.
use Rattle.std.specs.Prelude.{ℕ, zero, suc, ◌+◌, ◌*◌, ◌≤◌, ◌<◌, ◌≡◌, Bool, false, ◌||◌, List, ltb, length, get_or, take, drop}
use Rattle.lent.specs.Memory.{splice}
use Rattle.registers.specs.Dten.{dten, with_dten}

-- how long the state is
unfoldable pub state_length : ℕ → ℕ
state_length n = 109 * n

-- where device k + 1's group g lies, and its pin
unfoldable pub spot : ℕ → ℕ → ℕ
spot k g = 109 * k + 6 * g

unfoldable pub pin_spot : ℕ → ℕ
pin_spot k = 109 * k + 108

-- what is stored there
unfoldable pub stored : ℕ → ℕ → List ℕ → List ℕ
stored k g state = take 6 (drop (spot k g) state)

unfoldable pub pin : ℕ → List ℕ → ℕ
pin k state = get_or state (pin_spot k) 0

-- what a read shows of it: stored bytes read back as they are, but DTEN, which shows the pin
unfoldable pub shown : ℕ → ℕ → List ℕ → List ℕ
shown k g state = with_dten g (pin k state) (stored k g state)

-- the state after it stores new bytes: all but DTEN, which stays
unfoldable pub storing : ℕ → ℕ → List ℕ → List ℕ → List ℕ
storing k g new state = splice (spot k g) (with_dten g (dten (stored k g state)) new) state

-- of devices 1 to k a pin byte is above 1
unfoldable pub pin_above : ℕ → List ℕ → Bool
pin_above zero state = false
pin_above (suc k) state = pin_above k state || ltb 1 (pin k state)

-- a state that the chain does not refuse: of the right length, with every pin byte 0 or 1
pub record Sound (n : ℕ) (state : List ℕ) : Type 0 where
  pub whole : length state ≡ state_length n
  pub pins : (k : ℕ) → k < n → pin k state ≤ 1
