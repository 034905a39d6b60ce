-- `pec::lent_table` lends the list of specs/. Assumes nothing.
use Rattle.std.proofs.Common.{refl}
use Rattle.pec.specs.Remainders.{remainders}
use Rattle.pec.proofs.lent_table.Goals as goal

pub returns : goal.returns
unfolding remainders
returns c = refl
