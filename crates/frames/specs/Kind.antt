-- What the kind of a command decides of its frame. Kinds: 0 unknown, 1 write, 2 read, 3 clear, 4 conversion. Assumes nothing.
use Rattle.std.specs.Prelude.{ℕ, ◌+◌, ◌*◌, Bool, eqb, ltb}
use Rattle.lent.specs.Refusal.{pick}

abbrev pub is_unknown : ℕ → Bool
is_unknown kind = eqb kind 0

abbrev pub is_write : ℕ → Bool
is_write kind = eqb kind 1

abbrev pub is_read : ℕ → Bool
is_read kind = eqb kind 2

abbrev pub is_clear : ℕ → Bool
is_clear kind = eqb kind 3

-- a kind above a read, a clear or a conversion: the command group is the whole frame, and every device obeys
abbrev pub is_short : ℕ → Bool
is_short kind = ltb 2 kind

-- how many bytes of host data a command takes: six for each device in a write, none in any other
unfoldable pub data_needed : ℕ → ℕ → ℕ
data_needed n kind = pick (is_write kind) (6 * n) 0

-- how many bytes its frame has (01, Frames: write 4 + 8N, read 4 + 8N, clear 4; a conversion 4)
unfoldable pub frame_length : ℕ → ℕ → ℕ
frame_length n kind = pick (is_short kind) 4 (4 + 8 * n)
