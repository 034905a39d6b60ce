-- `host::marks::any_above`. The loop's invariant: whether there is such a mark is whether there is one among those left. Assumes nothing.
use Rattle.std.proofs.Common.{◌≡◌, drop}
use Rattle.host.specs.Marks.{any_above}
use Rattle.host.proofs.marks.any_above.Given as goal

abbrev pub invariant-loop-mark : goal.invariant-loop-mark
invariant-loop-mark l = any_above (drop l.mark-index l.marks) ≡ any_above l.marks
