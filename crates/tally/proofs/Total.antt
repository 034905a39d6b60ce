-- The sums of a tally over any row of replies: one law for any number that a reply raises, by induction over the row. Assumes nothing.
use mathlib.Core.Path.{◌≡◌, refl, ◌∙◌}
use mathlib.Core.Bool.{Bool, true, false}
use mathlib.Core.List.{List, [], ◌∷◌}
use Prim.Native.Nat.{ℕ, ◌+◌}
use native.Mathlib.Omega.{arith}
use borrow.Author.Tests.{eqb-true}
use lib.Dec.{eqb}
use lib.ListN.{length}
use Rattle.lent.specs.Refusal.{pick}
use Rattle.lent.proofs.First.{none_first}
use Rattle.frames.specs.Size.{outside}
use Rattle.host.specs.Marks.{any_above, count_of}
use Rattle.tally.specs.Tally.{counted, plus, tally_number, tally_after}
use Rattle.tally.specs.Row.{after, accepted, total, zeros, Sums}
use Rattle.tally.specs.declared.Tally.{Tally}
use Rattle.host.proofs.Sorts.{sorts}

-- an accepted reply has no mark above 2
no_above : (t : Tally) (marks : List ℕ) → tally_number t marks ≡ 0 → any_above marks ≡ false
unfolding tally_number
no_above t marks e = let t1 = none_first (outside (length marks)) 0 _ e in (none_first (any_above marks) 2 _ t1.1).0

module _ (f : Tally → ℕ) (worth : List ℕ → ℕ) (raises : (t : Tally) (marks : List ℕ) → tally_number t marks ≡ 0 → f (plus t (counted marks)) ≡ f t + worth marks) where
  one : (t : Tally) (marks : List ℕ) (row : List (List ℕ)) → f (tally_after t marks) + total worth row ≡ f t + total worth (pick (eqb (tally_number t marks) 0) (marks ∷ row) row)
  unfolding tally_after pick
  one t marks row = by_test (eqb (tally_number t marks) 0) (λ e. raises t marks (eqb-true (tally_number t marks) 0 e))
    where
      by_test : (b : Bool) → (b ≡ true → f (plus t (counted marks)) ≡ f t + worth marks) → f (pick b (plus t (counted marks)) t) + total worth row ≡ f t + total worth (pick b (marks ∷ row) row)
      by_test true h = let e = h refl in omega arith
      by_test false h = refl

  pub sum_of : (t : Tally) (row : List (List ℕ)) → f (after t row) ≡ f t + total worth (accepted t row)
  sum_of t [] = omega arith
  sum_of t (marks ∷ row) = sum_of (tally_after t marks) row ∙ one t marks (accepted (tally_after t marks) row)

  pub from_zero : f zeros ≡ 0 → (row : List (List ℕ)) → f (after zeros row) ≡ total worth (accepted zeros row)
  from_zero z row = omega (arith, sum_of zeros row)

ones : (row : List (List ℕ)) → total (λ _. 1) row ≡ length row
ones [] = refl
ones (marks ∷ row) = omega (arith, ones row)

pub sums : (row : List (List ℕ)) → Sums row
unfolding plus counted
sums row =
    record {
      groups = from_zero (λ t. t.read + t.wrong + t.silent) length (λ t marks e. omega (arith, sorts marks (no_above t marks e))) refl row;
      replies = from_zero (λ t. t.replies) (λ _. 1) (λ t marks e. refl) refl row ∙ ones (accepted zeros row);
      read = from_zero (λ t. t.read) (count_of 0) (λ t marks e. refl) refl row;
      wrong = from_zero (λ t. t.wrong) (count_of 1) (λ t marks e. refl) refl row;
      silent = from_zero (λ t. t.silent) (count_of 2) (λ t marks e. refl) refl row;
    }
