-- What a good frame does, by the kind of its command: the reply's bytes, the state after it, the word. Device k of 01 has the index k - 1 here.
-- Assumes nothing.
use Rattle.std.specs.Prelude.{ℕ, zero, suc, ◌*◌, ◌-◌, ◌^◌, List, [], ◌++◌, eqb, length, take, replicate}
use Rattle.lent.specs.Memory.{splice}
use Rattle.lent.specs.Refusal.{pick}
use Rattle.lent.specs.Word.{bits_where}
use Rattle.pec.specs.Group.{with_pec, right}
use Rattle.frames.specs.Kind.{is_write, is_read, is_clear, is_short}
use Rattle.frames.specs.Places.{wire}
use Rattle.registers.specs.State.{spot, shown, storing}

-- the silence of the wire: bytes 0xFF
unfoldable pub silence : ℕ → List ℕ
silence count = replicate count 255

-- A read: what devices 1 to k show of the group, each with its PEC, device 1's first.
unfoldable pub answers : ℕ → ℕ → List ℕ → List ℕ
answers zero g state = []
answers (suc k) g state = answers k g state ++ with_pec (shown k g state)

-- A write: devices 1 to k, each by its own group alone. Right PEC, it stores the six bytes, of CFGA all bits but DTEN; wrong PEC, it keeps what it had.
unfoldable pub written : ℕ → ℕ → ℕ → List ℕ → List ℕ → List ℕ
written n zero g frame state = state
written n (suc k) g frame state =
    pick (right (wire n k frame)) (storing k g (take 6 (wire n k frame)) (written n k g frame state)) (written n k g frame state)

-- The word of a write: of devices 1 to k, bit j - 1 is set for each device j that stored.
unfoldable pub stored_bits : ℕ → ℕ → List ℕ → ℕ
stored_bits n k frame = bits_where (λ (j : ℕ). right (wire n j frame)) k

-- A clear: `count` groups from g on become 0xFF, on devices 1 to k. From 2 on it is groups 2 to 7, from 8 on groups 8 to 11.
unfoldable pub clear_count : ℕ → ℕ
clear_count g = pick (eqb g 2) 6 4

unfoldable pub cleared : ℕ → ℕ → ℕ → List ℕ → List ℕ
cleared zero g count state = state
cleared (suc k) g count state = splice (spot k g) (silence (6 * count)) (cleared k g count state)

-- BY THE KIND

-- the reply: as many bytes as the frame has, 0xFF, except that a read puts device k's group at 4 + 8(k - 1)
unfoldable pub answer : ℕ → ℕ → ℕ → List ℕ → List ℕ → List ℕ
answer n kind g frame state = pick (is_read kind) (silence 4 ++ answers n g state) (silence (length frame))

-- the state: a read and a conversion leave it
unfoldable pub changed : ℕ → ℕ → ℕ → List ℕ → List ℕ → List ℕ
changed n kind g frame state = pick (is_write kind) (written n n g frame state) (pick (is_clear kind) (cleared n g (clear_count g) state) state)

-- the word: who stored on a write, the low n bits on a clear or a conversion, 0 on a read
unfoldable pub report : ℕ → ℕ → List ℕ → ℕ
report n kind frame = pick (is_write kind) (stored_bits n n frame) (pick (is_short kind) (2 ^ n - 1) 0)
