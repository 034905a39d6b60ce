-- `registers::state::pin_above`: of the first k pins none is above 1. Assumes nothing.
use Rattle.std.proofs.Common.{◌≡◌, false}
use Rattle.registers.specs.State.{pin_above}
use Rattle.registers.proofs.state.pin_above.Given as goal

abbrev pub invariant-loop-k : goal.invariant-loop-k
invariant-loop-k l = pin_above l.k l.state ≡ false
