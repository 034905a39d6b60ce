-- What the DTEN pins do (02, K5): what follows of the chain's statement, for any frame and all that is lent, and of what is shown and stored. Device k of 01 has
-- the index k - 1 here. Assumes nothing.
use Rattle.std.specs.Prelude.{ℕ, ◌+◌, ◌*◌, ◌≤◌, ◌<◌, ◌≡◌, Bool, true, ◌&&◌, List, eqb, set, take}
use Rattle.lent.specs.Memory.{splice}
use Rattle.lent.specs.Refusal.{pick}
use Rattle.pec.specs.Group.{with_pec}
use Rattle.frames.specs.Kind.{is_read}
use Rattle.frames.specs.Commands.{kind_of, group_of}
use Rattle.frames.specs.Places.{eight}
use Rattle.registers.specs.Dten.{dten, with_dten}
use Rattle.registers.specs.State.{spot, pin_spot, stored, pin, shown, storing}
use Rattle.chain.specs.Chain.{code_of, Serves}
use Rattle.chain.specs.declared.Heard.{Heard}

-- "The stored bit and the pin stay": no frame changes them, obeyed or refused.
abbrev pub PinsStay : Type 0
PinsStay =
    (n : ℕ) (frame state reply : List ℕ) (r : Heard) (after answer : List ℕ) → Serves n frame state reply r after answer
    → (k : ℕ) → k < n → (pin k after ≡ pin k state) × (dten (stored k 0 after) ≡ dten (stored k 0 state))

-- the frame is a read of CFGA, and was obeyed
unfoldable pub reads_cfga : ℕ → List ℕ → Bool
reads_cfga number frame = eqb number 0 && (is_read (kind_of (code_of frame)) && eqb (group_of (code_of frame)) 0)

-- the state with the pin of device j + 1 put to p
unfoldable pub with_pin : ℕ → ℕ → List ℕ → List ℕ
with_pin j p state = set state (pin_spot j) p

-- A pin changed between 0 and 1 changes its own byte, and of a read of CFGA that device's group: DTEN, which shows the pin, and with it the check word. Number,
-- word, every other byte of the state and every other byte of every reply are as they were.
abbrev pub PinShows : Type 0
PinShows =
    (n j p : ℕ) (frame state reply : List ℕ) → j < n → pin j state ≤ 1 → p ≤ 1
    → (r r' : Heard) (after after' answer answer' : List ℕ)
    → Serves n frame state reply r after answer → Serves n frame (with_pin j p state) reply r' after' answer'
    → (r ≡ r')
    × (after' ≡ with_pin j p after)
    × (answer' ≡ pick (reads_cfga r.number frame) (splice (4 + 8 * j) (with_pec (with_dten 0 p (take 6 (eight j answer)))) answer) answer)
    × (reads_cfga r.number frame ≡ true → (dten (eight j answer) ≡ pin j state) × (dten (eight j answer') ≡ p))

-- Every other group reads as it is stored, and stores what is written, as it was before K5.
abbrev pub OthersPlain : Type 0
OthersPlain =
    (k g : ℕ) (new state : List ℕ) → (g ≡ 0 → ⊥) → (shown k g state ≡ stored k g state) × (storing k g new state ≡ splice (spot k g) new state)
