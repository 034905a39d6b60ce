-- `cells::bit`: a 1 moved up, of which nothing is lost. Assumes nothing.
use Rattle.std.proofs.Common.{shl_exact, ◌∙◌, arith}
use Rattle.cells.proofs.bit.Goals as goal

pub returns : goal.returns
returns c = shl_exact 1 c.args.cell 32 (omega arith) (omega arith) ∙ omega arith
