-- Other devices are not concerned: "changing one device's group on the wire at will alters no other device's registers" (01, Chain). Device k of 01 has the
-- index k - 1 here. Assumes nothing.
use Rattle.std.specs.Prelude.{ℕ, ◌/◌, ◌%◌, ◌^◌, ◌<◌, ◌≡◌, List, length, take}
use Rattle.frames.specs.Places.{wire}
use Rattle.registers.specs.State.{stored, pin}
use Rattle.chain.specs.Chain.{Serves}
use Rattle.chain.specs.declared.Heard.{Heard}

-- Two frames of any bytes, alike but for the group of device k + 1 on the wire, and what the chain makes of each: every other device j + 1 has the same
-- registers and pin afterwards, and the same bit of the word.
abbrev pub Alone : Type 0
Alone =
    (n k : ℕ) (frame frame' state reply : List ℕ) → length frame ≡ length frame' → take 4 frame ≡ take 4 frame'
    → ((j : ℕ) → j < n → (j ≡ k → ⊥) → wire n j frame ≡ wire n j frame')
    → (r r' : Heard) (after after' answer answer' : List ℕ) → Serves n frame state reply r after answer → Serves n frame' state reply r' after' answer'
    → (j : ℕ) → j < n → (j ≡ k → ⊥)
    → ((h : ℕ) → h < 18 → stored j h after ≡ stored j h after') × (pin j after ≡ pin j after') × (r.word / 2 ^ j % 2 ≡ r'.word / 2 ^ j % 2)
