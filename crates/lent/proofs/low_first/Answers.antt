-- `lent::low_first`: two bytes, low first; the high byte is moved up, and nothing of it is lost. Assumes nothing.
use Rattle.std.proofs.Common.{◌+◌, arith}
use Rattle.lent.specs.LowFirst.{low_first_at}
use Rattle.lent.proofs.low_first.Goals as goal

pub returns : goal.returns
unfolding low_first_at
returns c = omega (arith, c.type_inv.bytes (c.args.at + 1))
