-- `registers::read::put_answers`: the answers of k devices are laid over the part. Assumes nothing.
use Rattle.std.proofs.Common.{◌≡◌, length}
use Rattle.lent.specs.Memory.{over}
use Rattle.registers.specs.Effect.{answers}
use Rattle.registers.proofs.read.put_answers.Given as goal

abbrev pub invariant-loop-k : goal.invariant-loop-k
invariant-loop-k l = (length l.part ≡ length l.fn.part) × (l.part ≡ over (answers l.k l.group l.state) l.fn.part)
