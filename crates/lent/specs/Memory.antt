-- How a statement speaks of lent memory at exit: as one whole list, made of what was there at entry. Assumes nothing.
use Rattle.std.specs.Prelude.{ℕ, ◌+◌, List, ◌++◌, length, take, drop}

-- new laid over the start of old: what stands past new's length is old's
unfoldable pub over : List ℕ → List ℕ → List ℕ
over new old = new ++ drop (length new) old

-- new laid into old from index at: what stands before at, and past new's end, is old's
unfoldable pub splice : ℕ → List ℕ → List ℕ → List ℕ
splice at new old = take at old ++ (new ++ drop (at + length new) old)
