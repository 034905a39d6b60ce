-- `cells::reading`. The loop's invariant: the counts and bits of the cells passed, over eighteen zeros. Assumes nothing.
use Rattle.cells.proofs.CellsPassed.{SoFar}
use Rattle.cells.proofs.reading.Given as goal

abbrev pub invariant-loop-cell : goal.invariant-loop-cell
invariant-loop-cell l = SoFar l.groups l.marks l.cell l.counts l.valid l.unmeasured
