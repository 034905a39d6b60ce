-- A frame as it goes out: a command group, and what its kind puts behind it. Assumes nothing.
use Rattle.std.specs.Prelude.{ℕ, zero, suc, ◌*◌, List, [], ◌++◌, replicate}
use Rattle.lent.specs.Refusal.{pick}
use Rattle.pec.specs.Group.{two_bytes, with_pec}
use Rattle.frames.specs.Kind.{is_write, is_read}
use Rattle.frames.specs.Commands.{kind_of}
use Rattle.frames.specs.Places.{six}

-- the data groups of devices k down to 1, as they pass on the wire
unfoldable pub write_groups : ℕ → List ℕ → List ℕ
write_groups zero bytes = []
write_groups (suc k) bytes = with_pec (six k bytes) ++ write_groups k bytes

-- behind the command group: the data groups of a write, the 0xFF clock bytes of a read, nothing of a clear or conversion
unfoldable pub frame_body : ℕ → ℕ → List ℕ → List ℕ
frame_body n kind bytes = pick (is_write kind) (write_groups n bytes) (pick (is_read kind) (replicate (8 * n) 255) [])

-- the first command byte holds 00000 and code bits 10 to 8, the second bits 7 to 0
unfoldable pub frame_of : ℕ → ℕ → List ℕ → List ℕ
frame_of n code bytes = with_pec (two_bytes code) ++ frame_body n (kind_of code) bytes
