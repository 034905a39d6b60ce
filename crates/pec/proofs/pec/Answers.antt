-- `pec::pec` gives the bit-by-bit word: the register begins as the remainder of no bytes, and each turn takes one in. Assumes nothing.
use Rattle.std.proofs.Common.{refl, arith}
use Rattle.pec.specs.Register.{remainder_of}
use Rattle.pec.proofs.Byte.{next, done}
use Rattle.pec.proofs.pec.Goals as goal

pub loop-byte-init : goal.loop-byte-init
unfolding remainder_of
loop-byte-init c = (omega arith, refl)

pub loop-byte-preserved : goal.loop-byte-preserved
loop-byte-preserved c =
    let l = c.loop-byte in
    (c.turn-r.ensures.1, next c.args.bytes.now l.byte-index l.r _ (omega arith) l.invariant.1 c.turn-r.ensures.0)

pub returns : goal.returns
returns c = record { word = done c.args.bytes.now c.loop-byte.byte-index c.loop-byte.r c.loop-byte.invariant.1 (omega arith) }
