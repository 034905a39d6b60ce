-- What the chain gives, for all inputs: the number, the word, the lent state and the lent reply at exit. Assumes nothing.
use Rattle.std.specs.Prelude.{ℕ, ◌+◌, ◌*◌, ◌≡◌, Bool, not, ◌||◌, List, [], ◌∷◌, eqb, ltb, length, get_or, take}
use Rattle.lent.specs.Refusal.{pick, first}
use Rattle.lent.specs.Memory.{over}
use Rattle.pec.specs.Group.{right}
use Rattle.frames.specs.Size.{outside}
use Rattle.frames.specs.Kind.{is_unknown, frame_length}
use Rattle.frames.specs.Commands.{kind_of, group_of}
use Rattle.registers.specs.State.{state_length, pin_above}
use Rattle.registers.specs.Effect.{silence, answer, changed, report}
use Rattle.chain.specs.declared.Heard.{Heard}

-- The command that a frame asks for. A first byte with any of its top five bits set gives a code that neither a row of the table nor a conversion has.
unfoldable pub code_of : List ℕ → ℕ
code_of frame = get_or frame 0 0 * 256 + get_or frame 1 0

-- The number: the first that applies (01, "Numbers a call can come back with", Chain; 3 as 02, K5, has it).
unfoldable pub chain_number : ℕ → List ℕ → List ℕ → ℕ → ℕ
chain_number n frame state reply_len =
    first
    ((outside n, 1)  -- N not 1..16
    ∷ (not (eqb (length state) (state_length n)) || pin_above n state, 3)  -- state not 109N, or a pin byte above 1
    ∷ (ltb reply_len (length frame), 5)  -- reply below L
    ∷ (ltb (length frame) 4, 6)  -- under 4 bytes
    ∷ (not (right (take 4 frame)), 4)  -- command PEC wrong
    ∷ (is_unknown (kind_of (code_of frame)), 2)  -- command unknown
    ∷ (not (eqb (length frame) (frame_length n (kind_of (code_of frame)))), 6)  -- length not that of its command
    ∷ [])

-- The refusals that show silence: 6, 4 and 2 fill the first L reply bytes with 0xFF.
unfoldable pub fills : ℕ → Bool
fills number = eqb number 6 || eqb number 4 || eqb number 2

-- The word, 0 on refusal.
unfoldable pub chain_word : ℕ → ℕ → List ℕ → ℕ
chain_word number n frame = pick (eqb number 0) (report n (kind_of (code_of frame)) frame) 0

-- The state at exit, untouched on refusal.
unfoldable pub chain_state : ℕ → ℕ → List ℕ → List ℕ → List ℕ
chain_state number n frame state = pick (eqb number 0) (changed n (kind_of (code_of frame)) (group_of (code_of frame)) frame state) state

-- The reply at exit: the answer, or silence, laid over it, or nothing; bytes past L stay.
unfoldable pub chain_reply : ℕ → ℕ → List ℕ → List ℕ → List ℕ → List ℕ
chain_reply number n frame state reply =
    pick (eqb number 0) (over (answer n (kind_of (code_of frame)) (group_of (code_of frame)) frame state) reply)
    (pick (fills number) (over (silence (length frame)) reply) reply)

pub record Serves (n : ℕ) (frame state reply : List ℕ) (r : Heard) (state' reply' : List ℕ) : Type 0 where
  pub number : r.number ≡ chain_number n frame state (length reply)
  pub word : r.word ≡ chain_word r.number n frame
  pub registers : state' ≡ chain_state r.number n frame state
  pub answered : reply' ≡ chain_reply r.number n frame state reply
