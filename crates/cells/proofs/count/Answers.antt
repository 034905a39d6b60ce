-- `cells::count`: the two bytes of a cell lie within the 36. Assumes nothing.
use Rattle.cells.specs.Cells.{count_at}
use Rattle.cells.proofs.count.Goals as goal

pub returns : goal.returns
unfolding count_at
returns c = c.low_first.ensures
