-- What the host reader gives, for all inputs. Device k of 01 has the index k - 1 here. Assumes nothing.
use Rattle.std.specs.Prelude.{ℕ, zero, suc, ◌+◌, ◌*◌, ◌≡◌, not, ◌||◌, List, [], ◌∷◌, ◌++◌, eqb, ltb, length}
use Rattle.lent.specs.Refusal.{pick, first}
use Rattle.lent.specs.Memory.{over}
use Rattle.frames.specs.Size.{outside}
use Rattle.frames.specs.Kind.{is_unknown, is_read}
use Rattle.frames.specs.Commands.{kind_of}
use Rattle.frames.specs.Places.{eight}
use Rattle.host.specs.Marks.{mark_of, bytes_of}

-- What devices 1 to k give, in device order, each by its own eight bytes of the reply: six bytes and a mark.
unfoldable pub all_bytes : ℕ → List ℕ → List ℕ
all_bytes zero reply = []
all_bytes (suc k) reply = all_bytes k reply ++ bytes_of (eight k reply)

unfoldable pub all_marks : ℕ → List ℕ → List ℕ
all_marks zero reply = []
all_marks (suc k) reply = all_marks k reply ++ (mark_of (eight k reply) ∷ [])

-- The number: the first that applies (01, "Numbers a call can come back with", Reader).
unfoldable pub reader_number : ℕ → ℕ → ℕ → ℕ → ℕ → ℕ
reader_number n code reply_len bytes_len marks_len =
    first
    ((outside n, 1)  -- N not 1..16
    ∷ (is_unknown (kind_of code), 2)  -- command unknown
    ∷ (not (is_read (kind_of code)), 7)  -- command is no read
    ∷ (not (eqb reply_len (4 + 8 * n)), 3)  -- reply of the wrong length
    ∷ (ltb bytes_len (6 * n) || ltb marks_len n, 5)  -- a lent output too short
    ∷ [])

-- The lent bytes at exit: six for each device laid over them, and untouched on refusal.
unfoldable pub reader_bytes : ℕ → ℕ → List ℕ → List ℕ → List ℕ
reader_bytes number n reply bytes = pick (eqb number 0) (over (all_bytes n reply) bytes) bytes

-- The lent marks at exit: one for each device laid over them, and untouched on refusal.
unfoldable pub reader_marks : ℕ → ℕ → List ℕ → List ℕ → List ℕ
reader_marks number n reply marks = pick (eqb number 0) (over (all_marks n reply) marks) marks

-- What the reader promises of its number r and of the lent bytes and marks at exit.
pub record HandsOut (n code : ℕ) (reply bytes marks : List ℕ) (r : ℕ) (bytes' marks' : List ℕ) : Type 0 where
  pub number : r ≡ reader_number n code (length reply) (length bytes) (length marks)
  pub bytes_out : bytes' ≡ reader_bytes r n reply bytes
  pub marks_out : marks' ≡ reader_marks r n reply marks
