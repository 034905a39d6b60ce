-- `cells::is_read`: by the mark of the cell's group. Assumes nothing.
use Rattle.cells.specs.Cells.{read_at}
use Rattle.cells.proofs.is_read.Goals as goal

pub returns : goal.returns
unfolding read_at
returns c = c.was_read.ensures
