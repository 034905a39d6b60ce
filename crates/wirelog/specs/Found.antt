-- What the log's reader finds at a place, for all logs and places. Assumes nothing.
use Rattle.std.specs.Prelude.{ℕ, Result, Ok, Err, ◌+◌, ◌-◌, ◌≡◌, Bool, not, ◌&&◌, List, [], ◌∷◌, eqb, ltb, leb, length}
use Rattle.lent.specs.Refusal.{pick, first}
use Rattle.lent.specs.Number.{number}
use Rattle.lent.specs.declared.refusal.Refusal.{Refusal}
use Rattle.wirelog.specs.Kinds.{known, within}
use Rattle.wirelog.specs.Record.{length_at, kind_at, next_at, body_at}
use Rattle.wirelog.specs.declared.record.Found.{Found}

-- What stands at a place: a record of kind 1 to 4, where its body lies and how long it is, and the next place; a record of any other kind; the end; or what is
-- refused, by its number.
pub data Answer : Type 0 where
  Record : (kind body len next : ℕ) → Answer
  Unknown : (kind next : ℕ) → Answer
  End : Answer
  Refused : (number : ℕ) → Answer

unfoldable pub answered : Result Found Refusal → Answer
answered (Ok (Found.Record kind body len next)) = Answer.Record kind body len next
answered (Ok (Found.Unknown kind next)) = Answer.Unknown kind next
answered (Ok Found.End) = Answer.End
answered (Err refusal) = Answer.Refused (number refusal)

-- The two bytes of the record's length are there, they count the kind's two at least, and all that they count is there.
unfoldable pub whole_at : List ℕ → ℕ → Bool
whole_at log place = leb (place + 2) (length log) && (leb 2 (length_at log place) && leb (next_at log place) (length log))

unfoldable pub outside_limits : List ℕ → ℕ → Bool
outside_limits log place = known (kind_at log place) && not (within (kind_at log place) (body_at log place))

-- The number at every place but the end: the first that applies (02, K3).
unfoldable pub find_number : List ℕ → ℕ → ℕ
find_number log place =
    first
    ((ltb (length log) place, 10)  -- a place past the end
    ∷ (not (whole_at log place), 10)  -- a record cut short, or a length below 2
    ∷ (outside_limits log place, 11)  -- a body outside its kind's limits
    ∷ [])

-- a record of kind 1 to 4, or of a kind that is not known
unfoldable pub stands_at : List ℕ → ℕ → Answer
stands_at log place =
    pick (known (kind_at log place)) (Answer.Record (kind_at log place) (place + 4) (length_at log place - 2) (next_at log place))
    (Answer.Unknown (kind_at log place) (next_at log place))

unfoldable pub found_at : List ℕ → ℕ → Answer
found_at log place =
    pick (eqb place (length log)) Answer.End
    (pick (eqb (find_number log place) 0) (stands_at log place) (Answer.Refused (find_number log place)))

-- What `record_at` promises.
pub record FindsAt (log : List ℕ) (place : ℕ) (r : Answer) : Type 0 where
  pub found : r ≡ found_at log place
