-- The link tally: replies, groups read, groups wrong, groups silent, and a reply's marks added to it. Assumes nothing.
use Rattle.std.specs.Prelude.{ℕ, ◌+◌, ◌≡◌, Bool, ◌||◌, List, [], ◌∷◌, Result, Ok, Err, eqb, ltb, length}
use Rattle.lent.specs.Number.{number}
use Rattle.lent.specs.Refusal.{pick, first}
use Rattle.lent.specs.declared.refusal.Refusal.{Refusal}
use Rattle.frames.specs.Size.{outside}
use Rattle.host.specs.Marks.{read_mark, wrong_mark, silent_mark, any_above, count_of}
use Rattle.tally.specs.declared.Tally.{Tally}

-- Adding a reply's marks raises replies by 1 and the others by the marks of their sort.
unfoldable pub counted : List ℕ → Tally
counted marks = record { replies = 1; read = count_of read_mark marks; wrong = count_of wrong_mark marks; silent = count_of silent_mark marks }

unfoldable pub plus : Tally → Tally → Tally
plus t more = record { replies = t.replies + more.replies; read = t.read + more.read; wrong = t.wrong + more.wrong; silent = t.silent + more.silent }

-- a count passes 4,294,967,295; any of the four does
unfoldable pub past : ℕ → Bool
past n = ltb 4294967295 n

unfoldable pub past_any : Tally → Bool
past_any t = past t.replies || (past t.read || (past t.wrong || past t.silent))

-- The number: the first that applies (01, "Numbers a call can come back with", Tally).
unfoldable pub tally_number : Tally → List ℕ → ℕ
tally_number t marks =
    first
    ((outside (length marks), 1)  -- marks not 1..16 long
    ∷ (any_above marks, 3)  -- a mark above 2
    ∷ (past_any (plus t (counted marks)), 8)  -- a count would pass 4,294,967,295
    ∷ [])

-- The tally afterwards: a refusal changes nothing.
unfoldable pub tally_after : Tally → List ℕ → Tally
tally_after t marks = pick (eqb (tally_number t marks) 0) (plus t (counted marks)) t

-- what is given, and the tally as it is to be
pub record Added : Type 0 where
  pub number : ℕ
  pub tally : Tally

unfoldable pub added : Tally → Result Tally Refusal → Added
added t (Ok sum) = record { number = 0; tally = sum }
added t (Err refusal) = record { number = number refusal; tally = t }

-- What `add` promises.
pub record Adds (t : Tally) (marks : List ℕ) (r : Added) : Type 0 where
  pub number : r.number ≡ tally_number t marks
  pub tally : r.tally ≡ tally_after t marks
