-- The link tally as one record that the controller lends and finds updated. Assumes nothing.
use Rattle.std.specs.Prelude.{ℕ, ◌≡◌, List}
use Rattle.tally.specs.Tally.{tally_number, tally_after}
use Rattle.tally.specs.declared.Tally.{Tally}

-- What `rig_tally_add` promises of its number r and of the lent tally, which is t at entry and t' at exit.
pub record AddsLent (t : Tally) (marks : List ℕ) (r : ℕ) (t' : Tally) : Type 0 where
  pub number : r ≡ tally_number t marks
  pub tally : t' ≡ tally_after t marks
