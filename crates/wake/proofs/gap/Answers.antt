-- `wake::gap`: the number that `last` added to wraps back to `clock`. Assumes nothing.
use Rattle.std.proofs.Common.{arith}
use Rattle.wake.specs.Wake.{gap_of}
use Rattle.wake.proofs.gap.Goals as goal

pub returns : goal.returns
unfolding gap_of
returns c = omega arith
