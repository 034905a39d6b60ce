-- `registers::write::store_groups`: k devices have stored or kept, the word has their bits, and their parts of the reply are silence. Assumes nothing.
use Rattle.std.proofs.Common.{◌≡◌, ◌*◌, length}
use Rattle.lent.specs.Memory.{over}
use Rattle.registers.specs.Effect.{silence, written, stored_bits}
use Rattle.registers.proofs.write.store_groups.Given as goal

abbrev pub invariant-loop-k : goal.invariant-loop-k
invariant-loop-k l =
    (l.word ≡ stored_bits l.fn.n.count l.k l.frame)
    × (length l.state ≡ length l.fn.state)
    × (l.state ≡ written l.fn.n.count l.k l.group l.frame l.fn.state)
    × (length l.part ≡ length l.fn.part)
    × (l.part ≡ over (silence (8 * l.k)) l.fn.part)
