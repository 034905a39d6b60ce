-- The table's rule: one test computed over all 256 entries, and carried to each. Assumes nothing.
use mathlib.Core.Path.{◌≡◌, refl}
use mathlib.Core.Bool.{Bool, true}
use Prim.Native.Nat.{ℕ, ◌<◌}
use borrow.Author.Tests.{eqb-true}
use lib.Dec.{eqb}
use lib.ListN.{get_or}
use Rattle.lent.proofs.Tests.{below, each_below}
use Rattle.pec.specs.Polynomial.{times_x, entry_of}
use Rattle.pec.specs.Remainders.{remainders}

follows_rule : ℕ → Bool
follows_rule i = eqb (get_or remainders i 0) (entry_of i)

all_follow : below 256 follows_rule ≡ true
unfolding follows_rule remainders entry_of times_x
all_follow = refl

-- entry i is i times x^15, reduced
pub entry_follows : (i : ℕ) → i < 256 → get_or remainders i 0 ≡ entry_of i
unfolding follows_rule
entry_follows i h = eqb-true (get_or remainders i 0) (entry_of i) (each_below follows_rule 256 all_follow i h)
