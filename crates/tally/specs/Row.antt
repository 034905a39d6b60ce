-- What a tally sums to: a row of replies, each added to the tally that the one before left. Assumes nothing.
use Rattle.std.specs.Prelude.{ℕ, ◌+◌, ◌≡◌, List, [], ◌∷◌, eqb, length}
use Rattle.lent.specs.Refusal.{pick}
use Rattle.host.specs.Marks.{read_mark, wrong_mark, silent_mark, count_of}
use Rattle.tally.specs.Tally.{tally_number, tally_after}
use Rattle.tally.specs.declared.Tally.{Tally}

-- the tally at the end
abbrev pub after : Tally → List (List ℕ) → Tally
after t [] = t
after t (marks ∷ row) = after (tally_after t marks) row

-- the replies accepted
abbrev pub accepted : Tally → List (List ℕ) → List (List ℕ)
accepted t [] = []
accepted t (marks ∷ row) =
    let rest = accepted (tally_after t marks) row in
    pick (eqb (tally_number t marks) 0) (marks ∷ rest) rest

-- a number of each reply, added up
abbrev pub total : (List ℕ → ℕ) → List (List ℕ) → ℕ
total f [] = 0
total f (marks ∷ row) = f marks + total f row

abbrev pub zeros : Tally
zeros = record { replies = 0; read = 0; wrong = 0; silent = 0 }

-- From a zero tally the three group counts together equal the marks of all replies accepted; and each count is what its name says.
pub record Sums (row : List (List ℕ)) : Type 0 where
  pub groups : (after zeros row).read + (after zeros row).wrong + (after zeros row).silent ≡ total length (accepted zeros row)
  pub replies : (after zeros row).replies ≡ length (accepted zeros row)
  pub read : (after zeros row).read ≡ total (count_of read_mark) (accepted zeros row)
  pub wrong : (after zeros row).wrong ≡ total (count_of wrong_mark) (accepted zeros row)
  pub silent : (after zeros row).silent ≡ total (count_of silent_mark) (accepted zeros row)
