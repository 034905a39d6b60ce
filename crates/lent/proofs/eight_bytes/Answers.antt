-- `lent::eight_bytes`: the number of eight bytes, two by two. Assumes nothing.
use Rattle.std.proofs.Common.{arith}
use Rattle.lent.proofs.LowFirst.{number_two, number_end}
use Rattle.lent.proofs.eight_bytes.Goals as goal

pub returns : goal.returns
returns c =
    let bytes = c.args.bytes.now in
    omega (
      arith,
      number_two bytes 0 (omega arith),
      number_two bytes 2 (omega arith),
      number_two bytes 4 (omega arith),
      number_two bytes 6 (omega arith),
      number_end bytes 8 (omega arith),
    )
