-- `host::marks::was_read`: mark 0. Assumes nothing.
use Rattle.std.proofs.Common.{refl}
use Rattle.host.specs.Marks.{was_read}
use Rattle.host.proofs.marks.was_read.Goals as goal

pub returns : goal.returns
unfolding was_read
returns c = refl
