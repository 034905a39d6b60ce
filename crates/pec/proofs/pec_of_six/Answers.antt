-- `pec::pec_of_six`: after each of its six turns the register is the remainder of the bytes so far. Assumes nothing.
use Rattle.std.proofs.Common.{refl, arith}
use Rattle.pec.specs.Register.{remainder_of}
use Rattle.pec.proofs.Byte.{next, done}
use Rattle.pec.proofs.pec_of_six.Goals as goal

pub returns : goal.returns
unfolding remainder_of
returns c =
    let bytes = c.args.bytes.now in
    let e1 = next bytes 0 16 _ (omega arith) refl c.turn-first.ensures.0 in
    let e2 = next bytes 1 _ _ (omega arith) e1 c.turn-second.ensures.0 in
    let e3 = next bytes 2 _ _ (omega arith) e2 c.turn-third.ensures.0 in
    let e4 = next bytes 3 _ _ (omega arith) e3 c.turn-fourth.ensures.0 in
    let e5 = next bytes 4 _ _ (omega arith) e4 c.turn-fifth.ensures.0 in
    done bytes 6 _ (next bytes 5 _ _ (omega arith) e5 c.turn-sixth.ensures.0) (omega arith)
