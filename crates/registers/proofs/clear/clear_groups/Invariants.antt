-- `registers::clear::clear_groups`: the groups of k devices are filled. Assumes nothing.
use Rattle.std.proofs.Common.{◌≡◌, length}
use Rattle.registers.specs.Effect.{clear_count, cleared}
use Rattle.registers.proofs.clear.clear_groups.Given as goal

abbrev pub invariant-loop-k : goal.invariant-loop-k
invariant-loop-k l = (length l.state ≡ length l.fn.state) × (l.state ≡ cleared l.k l.group (clear_count l.group) l.fn.state)
