-- The reading of a log; and a row of records that the writer writes, and the log that it is. Assumes nothing.
use Rattle.std.specs.Prelude.{ℕ, ◌+◌, ◌≡◌, true, List, [], ◌∷◌, ◌++◌, eqb, length}
use Rattle.lent.specs.Bytes.{Bytes}
use Rattle.lent.specs.Refusal.{pick}
use Rattle.wirelog.specs.Kinds.{lawful}
use Rattle.wirelog.specs.Record.{record_of}
use Rattle.wirelog.specs.Found.{Answer, found_at}
use Rattle.wirelog.specs.Walk.{Walks}
use Rattle.wirelog.specs.declared.walk.Walked.{Walked}

-- What is found at a place of a log and, from there on, at each next place, to the end.
pub data Reading (log : List ℕ) : ℕ → List Answer → Type 0 where
  ended : (place : ℕ) → found_at log place ≡ Answer.End → Reading log place []
  known : (place kind body len next : ℕ) (rest : List Answer) → found_at log place ≡ Answer.Record kind body len next → Reading log next rest
      → Reading log place (Answer.Record kind body len next ∷ rest)
  unknown : (place kind next : ℕ) (rest : List Answer) → found_at log place ≡ Answer.Unknown kind next → Reading log next rest
      → Reading log place (Answer.Unknown kind next ∷ rest)

-- A LOG HAS ONE READING
abbrev pub OneReading : Type 0
OneReading = (log : List ℕ) (place : ℕ) (found found' : List Answer) → Reading log place found → Reading log place found' → found ≡ found'

-- a kind and a body
abbrev pub Item : Type 0
Item = ℕ × List ℕ

abbrev pub AllLawful : List Item → Type 0
AllLawful [] = Unit {0}
AllLawful (item ∷ row) = (lawful item.0 item.1 ≡ true) × AllLawful row

unfoldable pub bytes_of : List Item → List ℕ
bytes_of [] = []
bytes_of (item ∷ row) = record_of item.0 item.1 ++ bytes_of row

-- how many are of a kind
unfoldable pub of_kind : ℕ → List Item → ℕ
of_kind kind [] = 0
of_kind kind (item ∷ row) = pick (eqb item.0 kind) 1 0 + of_kind kind row

-- No two rows are the same log.
abbrev pub RowsApart : Type 0
RowsApart = (row row' : List Item) → AllLawful row → AllLawful row' → bytes_of row ≡ bytes_of row' → row ≡ row'

-- A walk over the log of a row comes to its end and counts it by kind.
abbrev pub WalksRows : Type 0
WalksRows = (row : List Item) → AllLawful row → (r : Walked) → Walks (bytes_of row) r
    → r ≡ record {
      number = 0;
      at = length (bytes_of row);
      sizes = of_kind 1 row;
      frames = of_kind 2 row;
      replies = of_kind 3 row;
      notes = of_kind 4 row;
      unknown = 0;
    }

-- And a log whose walk comes to its end, with no unknown kind, is the log of a row.
pub record RowOf (log : List ℕ) : Type 0 where
  pub row : List Item
  pub all : AllLawful row
  pub bytes : bytes_of row ≡ log

abbrev pub WholeIsRow : Type 0
WholeIsRow = (log : List ℕ) → Bytes log → (r : Walked) → Walks log r → r.number ≡ 0 → r.unknown ≡ 0 → RowOf log
