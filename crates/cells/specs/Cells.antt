-- The cell reading of one device: eighteen counts of 100 µV, a word of eighteen valid bits, and one of the cells that were not measured (02, K2). Cell c of
-- 01 has the index c - 1 here. Assumes nothing.
use Rattle.std.specs.Prelude.{ℕ, zero, suc, ◌*◌, ◌/◌, ◌≡◌, Bool, not, ◌&&◌, List, [], ◌∷◌, ◌++◌, eqb, length, get_or, replicate}
use Rattle.lent.specs.LowFirst.{low_first_at}
use Rattle.lent.specs.Refusal.{pick, first}
use Rattle.lent.specs.Word.{bits_where}
use Rattle.host.specs.Marks.{was_read, any_above}
use Rattle.cells.specs.declared.Readings.{Readings}

-- A cell is two bytes, low first, in order.
unfoldable pub count_at : List ℕ → ℕ → ℕ
count_at groups cell = low_first_at groups (2 * cell)

-- Its group was read; three cells to a group.
unfoldable pub read_at : List ℕ → ℕ → Bool
read_at marks cell = was_read (get_or marks (cell / 3) 0)

-- It holds 65,535, as after a clear.
unfoldable pub cleared_at : List ℕ → ℕ → Bool
cleared_at groups cell = eqb (count_at groups cell) 65535

-- Of a group that was read, a cell that holds 65,535 is not measured, and every other is valid.
unfoldable pub unmeasured_at : List ℕ → List ℕ → ℕ → Bool
unmeasured_at groups marks cell = read_at marks cell && cleared_at groups cell

unfoldable pub valid_at : List ℕ → List ℕ → ℕ → Bool
valid_at groups marks cell = read_at marks cell && not (cleared_at groups cell)

-- The counts of the first n cells, 0 where not valid.
unfoldable pub counts_of : ℕ → List ℕ → List ℕ → List ℕ
counts_of zero groups marks = []
counts_of (suc n) groups marks = counts_of n groups marks ++ (pick (valid_at groups marks n) (count_at groups n) 0 ∷ [])

-- The number: the first that applies (01, "Numbers a call can come back with", Cells).
unfoldable pub cells_number : List ℕ → List ℕ → ℕ
cells_number groups marks =
    first
    ((not (eqb (length groups) 36), 3)  -- CVA to CVF not 36 bytes
    ∷ (not (eqb (length marks) 6), 3)  -- marks not six
    ∷ (any_above marks, 3)  -- a mark above 2
    ∷ [])

-- What `reading` promises: refused cells give eighteen zeros and no bit of either word.
pub record ReadsCells (groups marks : List ℕ) (r : Readings) : Type 0 where
  pub number : r.number ≡ cells_number groups marks
  pub counts : r.counts ≡ pick (eqb (cells_number groups marks) 0) (counts_of 18 groups marks) (replicate 18 0)
  pub valid : r.valid ≡ pick (eqb (cells_number groups marks) 0) (bits_where (valid_at groups marks) 18) 0
  pub unmeasured : r.unmeasured ≡ pick (eqb (cells_number groups marks) 0) (bits_where (unmeasured_at groups marks) 18) 0
