-- `lent::copy_six` lays six bytes over the start of a part: six reads, then six stores. Assumes nothing.
use Rattle.lent.proofs.Stores.{six_stored}
use Rattle.lent.proofs.copy_six.Goals as goal

pub returns : goal.returns
returns c = six_stored c.args.bytes.now c.args.part.now c.requires.0 c.requires.1
