-- What a clear of the cells leaves behind (02, K2). After a clear 711 that acted, over any run of our frames with noise of the class: no cell that is read is valid,
-- and every cell of a group with mark 0 is unmeasured. No frame of ours writes those groups; only the owner of the lent state can change that. Assumes nothing.
use Rattle.std.specs.Prelude.{ℕ, ◌+◌, ◌/◌, ◌%◌, ◌^◌, ◌<◌, ◌≤◌, ◌≡◌, false, List, ◌∷◌, get_or}
use Rattle.lent.specs.Bytes.{Bytes}
use Rattle.lent.specs.Refusal.{pick}
use Rattle.frames.specs.Places.{six}
use Rattle.registers.specs.State.{Sound}
use Rattle.host.specs.Marks.{was_read}
use Rattle.cells.specs.Cells.{ReadsCells}
use Rattle.cells.specs.declared.Readings.{Readings}
use Rattle.link.specs.Rig.{Rig}
use Rattle.link.specs.Sending.{Sending, kind, group, Fair}
use Rattle.link.specs.Step.{Seen, step}
use Rattle.link.specs.Promise.{lost}
use Rattle.link.specs.Demands.{AllFair}
use Rattle.link.specs.Story.{left}

-- the clear of the cells
abbrev pub clears_cells : ℕ
clears_cells = 0x711

-- On a chain in any state: a clear that acted, then a run of any frames, then a read of the g-th group of cells, CVA to CVF by 0 to 5.
pub record AfterClear (n : ℕ) (state : List ℕ) (clear : Sending) (run : List Sending) (read : Sending) (g : ℕ) : Type 0 where
  pub are_bytes : Bytes state
  pub sound : Sound n state
  pub fair : Fair n clear
  pub clears : clear.code ≡ clears_cells
  pub acted : lost clear ≡ false
  pub run_fair : AllFair n run
  pub read_fair : Fair n read
  pub is_read : kind read ≡ 2
  pub a_group : g < 6
  pub of_cells : group read ≡ 2 + g

-- What the host hands to the cells of device k + 1: the bytes and the mark of this read are those of the g-th group. Whence the others come plays no part.
pub record HandedOn (k g : ℕ) (seen : Seen) (groups marks : List ℕ) : Type 0 where
  pub bytes : six g groups ≡ six k seen.bytes
  pub mark : get_or marks g 0 ≡ get_or seen.marks k 0

-- The three cells of the group: none is valid, and each is unmeasured exactly if the group was read.
abbrev pub Unmeasured : Rig → Type 0
Unmeasured R =
    (n : ℕ) → 1 ≤ n → n ≤ 16 → (state : List ℕ) (clear : Sending) (run : List Sending) (read : Sending) (g : ℕ) → AfterClear n state clear run read g
    → (k : ℕ) → k < n → (groups marks : List ℕ) → HandedOn k g (step R n read (left R n state (clear ∷ run))) groups marks
    → (r : Readings) → ReadsCells groups marks r → r.number ≡ 0
    → (c : ℕ) → c / 3 ≡ g
    → (r.valid / 2 ^ c % 2 ≡ 0)
    × (r.unmeasured / 2 ^ c % 2 ≡ pick (was_read (get_or (step R n read (left R n state (clear ∷ run))).marks k 0)) 1 0)
