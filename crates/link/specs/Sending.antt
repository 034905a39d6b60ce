-- One frame of a run: what the host asks for, the memory that is lent for it, and the noise on its two ways. Assumes nothing.
use Rattle.std.specs.Prelude.{ℕ, ◌*◌, ◌<◌, ◌≤◌, ◌≡◌, false, ◌⊎◌, List, length, take}
use Rattle.lent.specs.Bytes.{Bytes}
use Rattle.pec.specs.Noise.{hit, Allowed}
use Rattle.frames.specs.Kind.{data_needed, frame_length}
use Rattle.frames.specs.Commands.{kind_of, group_of}
use Rattle.frames.specs.Places.{wire, eight}

-- a command and its data; lent memory for the frame, the reply, and the reader's bytes and marks; a mask of flips for the way out (forth) and for the way back
pub record Sending : Type 0 where
  pub code : ℕ
  pub bytes : List ℕ
  pub out : List ℕ
  pub reply : List ℕ
  pub read : List ℕ
  pub marks : List ℕ
  pub forth : List ℕ
  pub back : List ℕ

-- its kind (1 write, 2 read, 3 clear, 4 conversion, 0 unknown), and the group that it writes or reads
abbrev pub kind : Sending → ℕ
kind s = kind_of s.code

abbrev pub group : Sending → ℕ
group s = group_of s.code

-- "any run of write, read and clear frames that our writer made for its size": a command of the table, or since 02's K1 a conversion, with the data that
-- it takes, and room enough lent.
-- "Noise may flip bits in a frame on the way out or on the way back, not both, with the flips in any one group lying within 15 neighbouring bits": a mask a
-- way, as long as the frame, at most one of the two hit, and in each group what `Allowed` names. Clock bytes, the first four bytes of a reply and the
-- replies to a write, a clear or a conversion may be hit at will.
pub record Fair (n : ℕ) (s : Sending) : Type 0 where
  pub known : kind s ≡ 0 → ⊥
  pub needed : length s.bytes ≡ data_needed n (kind s)
  pub are_bytes : Bytes s.bytes
  pub out_room : frame_length n (kind s) ≤ length s.out
  pub reply_room : frame_length n (kind s) ≤ length s.reply
  pub read_room : kind s ≡ 2 → 6 * n ≤ length s.read
  pub marks_room : kind s ≡ 2 → n ≤ length s.marks
  pub forth_bytes : Bytes s.forth
  pub forth_long : length s.forth ≡ frame_length n (kind s)
  pub back_bytes : Bytes s.back
  pub back_long : length s.back ≡ frame_length n (kind s)
  pub one_way : (hit s.forth ≡ false) ⊎ (hit s.back ≡ false)
  pub command : Allowed (take 4 s.forth)
  pub groups : kind s ≡ 1 → (k : ℕ) → k < n → Allowed (wire n k s.forth)
  pub replies : kind s ≡ 2 → (k : ℕ) → k < n → Allowed (eight k s.back)
