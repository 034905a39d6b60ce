-- `lent::fill`: the first k bytes are `value`, the others what they were. Assumes nothing.
use Rattle.std.proofs.Common.{length, ◌≡◌, ◌++◌, replicate, drop}
use Rattle.lent.proofs.fill.Given as goal

abbrev pub invariant-loop-k : goal.invariant-loop-k
invariant-loop-k l = l.part ≡ replicate l.k l.value ++ drop l.k l.fn.part
