-- Demand 3, over any run of frames; and demand 2, the quiet case with everything written out. Assumes nothing.
use Rattle.std.specs.Prelude.{ℕ, zero, suc, ◌-◌, ◌^◌, ◌<◌, ◌≤◌, ◌≡◌, false, List, [], ◌∷◌, ◌++◌, length, replicate}
use Rattle.lent.specs.Bytes.{Bytes}
use Rattle.lent.specs.Memory.{over}
use Rattle.lent.specs.Refusal.{pick}
use Rattle.pec.specs.Noise.{hit}
use Rattle.frames.specs.Places.{six}
use Rattle.registers.specs.Dten.{dten, with_dten}
use Rattle.registers.specs.State.{state_length, stored, pin, shown, Sound}
use Rattle.link.specs.Rig.{Rig}
use Rattle.link.specs.Sending.{Sending, kind, group, Fair}
use Rattle.link.specs.Step.{Seen, step}
use Rattle.link.specs.Promise.{sweeps, Obeys}

-- a row of fair frames
abbrev pub AllFair : ℕ → List Sending → Type 0
AllFair n [] = Unit {0}
AllFair n (s ∷ ss) = Fair n s × AllFair n ss

-- the registers that a frame leaves
abbrev pub after : Rig → ℕ → Sending → List ℕ → List ℕ
after R n s registers = (step R n s registers).registers

-- A run: each frame meets the registers that the one before it left.
abbrev pub run : Rig → ℕ → List ℕ → List Sending → List Seen
run R n registers [] = []
run R n registers (s ∷ ss) = step R n s registers ∷ run R n (after R n s registers) ss

-- what is seen against what was sent, one for one, each on the registers as they stand
abbrev pub Obeyed : Rig → ℕ → List ℕ → List Sending → List Seen → Type 0
Obeyed R n registers [] [] = Unit {0}
Obeyed R n registers [] (r ∷ rs) = ⊥
Obeyed R n registers (s ∷ ss) [] = ⊥
Obeyed R n registers (s ∷ ss) (r ∷ rs) = Obeys R n s registers r × Obeyed R n r.registers ss rs

-- DEMAND 3. "Take a chain in any state and any run of write, read and clear frames that our writer made for its size"; conversions count with the clears,
-- and any state is one with every pin byte 0 or 1 (02, K1 and K5).
abbrev pub Demand3 : Rig → Type 0
Demand3 R =
    (n : ℕ) → 1 ≤ n → n ≤ 16 → (state : List ℕ) → Bytes state → Sound n state
    → (ss : List Sending) → AllFair n ss → Obeyed R n state ss (run R n state ss)

-- DEMAND 2. "What our writer builds our chain obeys, and what the chain answers our reader gives back byte for byte."
abbrev pub Quiet : Sending → Type 0
Quiet s = (hit s.forth ≡ false) × (hit s.back ≡ false)

-- the six bytes that devices 1 to k hold, one after the other, as a read shows them
unfoldable pub held : ℕ → ℕ → List ℕ → List ℕ
held zero g state = []
held (suc k) g state = held k g state ++ shown k g state

-- bytes written to group g of devices 1 to k, as they read back: of CFGA each through the pin of its device
unfoldable pub read_back : ℕ → ℕ → List ℕ → List ℕ → List ℕ
read_back zero g state bytes = []
read_back (suc k) g state bytes = read_back k g state bytes ++ with_dten g (pin k state) (six k bytes)

pub record Undisturbed (n : ℕ) (s : Sending) (before : List ℕ) (r : Seen) : Type 0 where
  pub made : r.made ≡ 0
  pub number : r.number ≡ 0
  pub size : length r.registers ≡ state_length n
  -- no frame changes a pin, nor the DTEN that is stored
  pub pins : (k : ℕ) → k < n → pin k r.registers ≡ pin k before
  pub dten_stays : (k : ℕ) → k < n → dten (stored k 0 r.registers) ≡ dten (stored k 0 before)
  -- a write: every device has its bytes, no other group changes, and the word says so
  pub write : kind s ≡ 1
      → (held n (group s) r.registers ≡ read_back n (group s) before s.bytes)
      × ((k h : ℕ) → k < n → h < 18 → (h ≡ group s → ⊥) → shown k h r.registers ≡ shown k h before)
      × (r.word ≡ 2 ^ n - 1)
  -- a clear: its groups are 0xFF on every device, no other group changes, and the word says so
  pub clear : kind s ≡ 3
      → ((k h : ℕ) → k < n → h < 18 → shown k h r.registers ≡ pick (sweeps s.code h) (replicate 6 255) (shown k h before))
      × (r.word ≡ 2 ^ n - 1)
  -- a conversion: no register changes, and the word says that every device heard it
  pub conversion : kind s ≡ 4 → (r.registers ≡ before) × (r.word ≡ 2 ^ n - 1)
  -- a read: what every device holds, each marked as read, and no register changes
  pub read : kind s ≡ 2
      → (r.bytes ≡ over (held n (group s) before) s.read)
      × (r.marks ≡ over (replicate n 0) s.marks)
      × (r.registers ≡ before)
      × (r.word ≡ 0)
      × (r.asked ≡ 0)
  -- after any other frame the reader refuses, and touches nothing
  pub no_read : (kind s ≡ 2 → ⊥) → (r.asked ≡ 7) × (r.bytes ≡ s.read) × (r.marks ≡ s.marks)

-- every quiet frame, and a write that is read back: byte for byte, but for the DTEN of CFGA, which shows the pin
abbrev pub Demand2 : Rig → Type 0
Demand2 R =
    (n : ℕ) → 1 ≤ n → n ≤ 16 → (state : List ℕ) → Bytes state → Sound n state
    → ((s : Sending) → Fair n s → Quiet s → Undisturbed n s state (step R n s state))
    × ((w r : Sending) → Fair n w → Fair n r → Quiet w → Quiet r → kind w ≡ 1 → kind r ≡ 2 → group w ≡ group r
    → ((step R n r (after R n w state)).bytes ≡ over (read_back n (group w) state w.bytes) r.read)
    × ((group w ≡ 0 → ⊥) → (step R n r (after R n w state)).bytes ≡ over w.bytes r.read)
    × ((step R n r (after R n w state)).marks ≡ over (replicate n 0) r.marks))
