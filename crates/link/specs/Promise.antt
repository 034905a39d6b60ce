-- What demand 3 promises of one frame, by what was hit alone: no check word is in it. Device k of 01 has the index k - 1 here. Assumes nothing.
use Rattle.std.specs.Prelude.{ℕ, ◌-◌, ◌/◌, ◌%◌, ◌^◌, ◌<◌, ◌≡◌, Bool, false, not, ◌||◌, ◌&&◌, ◌⊎◌, List, eqb, leb, length, take, get_or, replicate}
use Rattle.lent.specs.Bytes.{Bytes}
use Rattle.lent.specs.Refusal.{pick}
use Rattle.pec.specs.Noise.{hit}
use Rattle.frames.specs.Places.{six, wire, eight}
use Rattle.registers.specs.Dten.{dten, with_dten}
use Rattle.registers.specs.State.{state_length, stored, pin, shown}
use Rattle.link.specs.Rig.{Rig}
use Rattle.link.specs.Sending.{Sending, kind, group}
use Rattle.link.specs.Step.{Seen, step, calm}

-- the command group was hit
unfoldable pub lost : Sending → Bool
lost s = hit (take 4 s.forth)

-- a write misses device k + 1: the command group or its own group was hit
unfoldable pub missed : ℕ → Sending → ℕ → Bool
missed n s k = lost s || hit (wire n k s.forth)

-- a read misses device k + 1: the read command or its reply group was hit
unfoldable pub unread : Sending → ℕ → Bool
unread s k = lost s || hit (eight k s.back)

-- A WRITE. "A device takes new bytes exactly when neither the command group nor its own group was hit": of CFGA all but DTEN, which reads as the pin (02, K5).
-- Every other group of every device stays; bit k of the word is set exactly when device k + 1 took its bytes, and no other bit.
pub record Writes (n : ℕ) (s : Sending) (before : List ℕ) (r : Seen) : Type 0 where
  pub own : (k : ℕ) → k < n
      → shown k (group s) r.registers ≡ pick (missed n s k) (shown k (group s) before) (with_dten (group s) (pin k before) (six k s.bytes))
  pub others : (k h : ℕ) → k < n → h < 18 → (h ≡ group s → ⊥) → shown k h r.registers ≡ shown k h before
  pub word : (k : ℕ) → k < n → r.word / 2 ^ k % 2 ≡ pick (missed n s k) 0 1
  pub no_more : r.word < 2 ^ n

-- A READ. "The host marks a device as read exactly when neither the read command nor that device's reply group was hit, and then hands out the bytes that
-- device holds at that moment", of CFGA as read through its pin (02, K5), else zeros. The registers stay, and lent lengths too.
pub record Reads (n : ℕ) (s : Sending) (before : List ℕ) (r : Seen) : Type 0 where
  pub kept : r.registers ≡ before
  pub word : r.word ≡ 0
  pub asked : r.asked ≡ 0
  pub mark : (k : ℕ) → k < n → eqb (get_or r.marks k 0) 0 ≡ not (unread s k)
  pub bytes : (k : ℕ) → k < n → six k r.bytes ≡ pick (unread s k) (replicate 6 0) (shown k (group s) before)
  pub bytes_long : length r.bytes ≡ length s.read
  pub marks_long : length r.marks ≡ length s.marks

-- the groups that a clear sets: 711 groups 2 to 7, 712 groups 8 to 11
unfoldable pub sweeps : ℕ → ℕ → Bool
sweeps code h = (eqb code 0x711 && (leb 2 h && leb h 7)) || (eqb code 0x712 && (leb 8 h && leb h 11))

-- A CLEAR. "A clear acts exactly when its command was not hit": then its groups are 0xFF on every device and the low n bits of the word are set. No other group changes.
pub record Clears (n : ℕ) (s : Sending) (before : List ℕ) (r : Seen) : Type 0 where
  pub all : (k h : ℕ) → k < n → h < 18
      → shown k h r.registers ≡ pick (lost s || not (sweeps s.code h)) (shown k h before) (replicate 6 255)
  pub word : r.word ≡ pick (lost s) 0 (2 ^ n - 1)

-- A CONVERSION counts with the clears (02, K1): it acts exactly when its command was not hit, and the low n bits of the word say so. No register changes.
pub record Converts (n : ℕ) (s : Sending) (before : List ℕ) (r : Seen) : Type 0 where
  pub unchanged : r.registers ≡ before
  pub word : r.word ≡ pick (lost s) 0 (2 ^ n - 1)

-- ONE FRAME. The writer makes it; the chain gives 0, or 4 where the command was hit. The reader, asked after every frame, refuses what is no read, and
-- touches nothing then. No frame changes a pin, nor the DTEN that is stored. "A frame not hit is handled as if noise had never come, on the registers as they
-- stand."
pub record Obeys (R : Rig) (n : ℕ) (s : Sending) (before : List ℕ) (r : Seen) : Type 0 where
  pub made : r.made ≡ 0
  pub number : r.number ≡ pick (lost s) 4 0
  pub size : length r.registers ≡ state_length n
  pub are_bytes : Bytes r.registers
  pub pins : (k : ℕ) → k < n → pin k r.registers ≡ pin k before
  pub dten_stays : (k : ℕ) → k < n → dten (stored k 0 r.registers) ≡ dten (stored k 0 before)
  pub kinds : (kind s ≡ 1) ⊎ ((kind s ≡ 2) ⊎ ((kind s ≡ 3) ⊎ (kind s ≡ 4)))
  pub write : kind s ≡ 1 → Writes n s before r
  pub read : kind s ≡ 2 → Reads n s before r
  pub clear : kind s ≡ 3 → Clears n s before r
  pub conversion : kind s ≡ 4 → Converts n s before r
  pub no_read : (kind s ≡ 2 → ⊥) → (r.asked ≡ 7) × (r.bytes ≡ s.read) × (r.marks ≡ s.marks)
  pub unhit : hit s.forth ≡ false → hit s.back ≡ false → r ≡ step R n (calm s) before
