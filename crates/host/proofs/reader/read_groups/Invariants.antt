-- `host::reader::read_groups`. The loop's invariant: what devices 1 to k give lies over both. Assumes nothing.
use Rattle.std.proofs.Common.{◌≡◌, length}
use Rattle.lent.specs.Memory.{over}
use Rattle.host.specs.Reader.{all_bytes, all_marks}
use Rattle.host.proofs.reader.read_groups.Given as goal

abbrev pub invariant-loop-k : goal.invariant-loop-k
invariant-loop-k l =
    (length l.bytes ≡ length l.fn.bytes)
    × (length l.marks ≡ length l.fn.marks)
    × (l.bytes ≡ over (all_bytes l.k l.reply) l.fn.bytes)
    × (l.marks ≡ over (all_marks l.k l.reply) l.fn.marks)
