-- What a mark says of the eight bytes that come from a device, and the six bytes that go with it. Assumes nothing.
use Rattle.std.specs.Prelude.{ℕ, ◌+◌, Bool, true, ◌&&◌, List, [], ◌∷◌, eqb, ltb, take, replicate}
use Rattle.std.specs.List.{list_any}
use Rattle.lent.specs.Refusal.{pick}
use Rattle.pec.specs.Group.{right}

-- The marks: read, PEC wrong, silent.
abbrev pub read_mark : ℕ
read_mark = 0

abbrev pub wrong_mark : ℕ
wrong_mark = 1

abbrev pub silent_mark : ℕ
silent_mark = 2

-- A group is silent: each of its eight bytes is 0xFF.
unfoldable pub silent : List ℕ → Bool
silent [] = true
silent (x ∷ xs) = eqb x 0xFF && silent xs

unfoldable pub mark_of : List ℕ → ℕ
mark_of g = pick (silent g) silent_mark (pick (right g) read_mark wrong_mark)

-- A group that was read gives its six bytes; every other mark gives six bytes of 0x00.
unfoldable pub bytes_of : List ℕ → List ℕ
bytes_of g = pick (eqb (mark_of g) read_mark) (take 6 g) (replicate 6 0x00)

-- OF MARKS THAT THE CALLER HANDS IN

-- the group was read
unfoldable pub was_read : ℕ → Bool
was_read mark = eqb mark read_mark

-- there is a mark above 2
unfoldable pub any_above : List ℕ → Bool
any_above = list_any (ltb silent_mark)

-- how many of the marks are of one sort
unfoldable pub count_of : ℕ → List ℕ → ℕ
count_of sort [] = 0
count_of sort (mark ∷ marks) = pick (eqb mark sort) 1 0 + count_of sort marks
