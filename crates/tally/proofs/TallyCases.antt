-- What `add` promises, case by case of the code's tests. Assumes nothing.
use mathlib.Core.Path.{◌≡◌, refl}
use mathlib.Core.Bool.{Bool, true, false}
use mathlib.Core.List.{List}
use Prim.Native.Nat.{ℕ}
use lib.ListN.{length}
use Rattle.std.specs.Prelude.{None, Some, ok_or}
use Rattle.lent.specs.Number.{number}
use Rattle.lent.specs.declared.refusal.Refusal.TheVariants.{TallyFull}
use Rattle.lent.specs.Refusal.{pick, first}
use Rattle.frames.specs.Size.{outside}
use Rattle.host.specs.Marks.{any_above}
use Rattle.tally.specs.Tally.{counted, plus, past_any, tally_number, tally_after, added, Adds}
use Rattle.tally.specs.declared.Tally.{Tally}

module _ (t : Tally) (marks : List ℕ) where
  pub refused_1 : outside (length marks) ≡ true → Adds t marks (record { number = 1; tally = t })
  unfolding tally_number tally_after first pick
  refused_1 o = record { number = simp o; tally = simp o }

  module _ (o : outside (length marks) ≡ false) where
    pub refused_3 : any_above marks ≡ true → Adds t marks (record { number = 3; tally = t })
    unfolding tally_number tally_after first pick
    refused_3 a = record { number = simp (o, a); tally = simp (o, a) }

    module _ (a : any_above marks ≡ false) (more : Tally) (m : more ≡ counted marks) where
      refused_8 : past_any (plus t more) ≡ true → Adds t marks (record { number = 8; tally = t })
      unfolding tally_number tally_after first pick
      refused_8 p = record { number = simp (o, a, ← m, p); tally = simp (o, a, ← m, p) }

      done : past_any (plus t more) ≡ false → Adds t marks (record { number = 0; tally = plus t more })
      unfolding tally_number tally_after first pick
      done p = record { number = simp (o, a, ← m, p); tally = simp (o, a, ← m, p) }

      pub summed : Adds t marks (added t (ok_or (pick (past_any (plus t more)) None (Some (plus t more))) TallyFull))
      unfolding added number pick
      summed = by_test (past_any (plus t more)) refl
        where
          by_test : (full : Bool) → past_any (plus t more) ≡ full → Adds t marks (added t (ok_or (pick full None (Some (plus t more))) TallyFull))
          by_test true p = refused_8 p
          by_test false p = done p
