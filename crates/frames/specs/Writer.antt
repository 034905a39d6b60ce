-- What the frame writer gives, for all inputs. Assumes nothing.
use Rattle.std.specs.Prelude.{ℕ, ◌≡◌, not, List, [], ◌∷◌, eqb, ltb, length}
use Rattle.lent.specs.Refusal.{pick, first}
use Rattle.lent.specs.Memory.{over}
use Rattle.frames.specs.Size.{outside}
use Rattle.frames.specs.Kind.{is_unknown, data_needed, frame_length}
use Rattle.frames.specs.Commands.{kind_of}
use Rattle.frames.specs.Frame.{frame_of}
use Rattle.lent.specs.declared.Written.{Written}

-- The number: the first that applies (01, "Numbers a call can come back with", Writer).
unfoldable pub writer_number : ℕ → ℕ → ℕ → ℕ → ℕ
writer_number n code bytes_len out_len =
    first
    ((outside n, 1)  -- N not 1..16
    ∷ (is_unknown (kind_of code), 2)  -- command unknown
    ∷ (not (eqb bytes_len (data_needed n (kind_of code))), 3)  -- write data not 6N, or any data for a read, clear or conversion
    ∷ (ltb out_len (frame_length n (kind_of code)), 5)  -- the lent output too short
    ∷ [])

-- The length: the frame's, and 0 on refusal.
unfoldable pub writer_length : ℕ → ℕ → ℕ → ℕ
writer_length number n code = pick (eqb number 0) (frame_length n (kind_of code)) 0

-- The lent output at exit: the frame laid over it, and untouched on refusal.
unfoldable pub writer_out : ℕ → ℕ → ℕ → List ℕ → List ℕ → List ℕ
writer_out number n code bytes out = pick (eqb number 0) (over (frame_of n code bytes) out) out

pub record Wrote (n code : ℕ) (bytes out : List ℕ) (r : Written) (out' : List ℕ) : Type 0 where
  pub number : r.number ≡ writer_number n code (length bytes) (length out)
  pub long : r.length ≡ writer_length r.number n code
  pub output : out' ≡ writer_out r.number n code bytes out
