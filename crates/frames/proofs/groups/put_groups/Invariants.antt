-- `frames::groups::put_groups`: as many bytes as are passed are the groups', and what is left of the groups is those of the devices to come. Assumes nothing.
use Rattle.std.proofs.Common.{◌≡◌, ◌*◌, ◌-◌, length, drop}
use Rattle.lent.proofs.Over.{upto}
use Rattle.frames.specs.Frame.{write_groups}
use Rattle.frames.proofs.groups.put_groups.Given as goal

abbrev pub invariant-loop-k : goal.invariant-loop-k
invariant-loop-k l =
    (length l.part ≡ length l.fn.part)
    × (l.part ≡ upto (8 * l.k) (write_groups l.n.count l.bytes) l.fn.part)
    × (drop (8 * l.k) (write_groups l.n.count l.bytes) ≡ write_groups (l.n.count - l.k) l.bytes)
