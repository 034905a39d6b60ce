-- `cells::extremes::extremes`. The loop's invariant: the range is that of the cells passed. Assumes nothing.
use Rattle.std.proofs.Common.{◌≡◌}
use Rattle.cells.specs.Extremes.{extremes_among}
use Rattle.cells.proofs.extremes.extremes.Given as goal

abbrev pub invariant-loop-cell : goal.invariant-loop-cell
invariant-loop-cell l = l.range ≡ extremes_among l.cell l.counts l.valid
