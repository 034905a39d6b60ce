-- A record in a log, low byte first: two bytes length, counting kind and body, two bytes kind, body. Assumes nothing.
use Rattle.std.specs.Prelude.{ℕ, ◌+◌, ◌-◌, List, ◌++◌, length, take, drop}
use Rattle.lent.specs.LowFirst.{low_first, low_first_at}

unfoldable pub record_of : ℕ → List ℕ → List ℕ
record_of kind body = low_first (2 + length body) ++ (low_first kind ++ body)

-- Of the record at a place of a log: its length, its kind, where the next one is, and its body.
unfoldable pub length_at : List ℕ → ℕ → ℕ
length_at log place = low_first_at log place

unfoldable pub kind_at : List ℕ → ℕ → ℕ
kind_at log place = low_first_at log (place + 2)

unfoldable pub next_at : List ℕ → ℕ → ℕ
next_at log place = place + 2 + length_at log place

unfoldable pub body_at : List ℕ → ℕ → List ℕ
body_at log place = take (length_at log place - 2) (drop (place + 4) log)
