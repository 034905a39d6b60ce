-- `registers::read::put_answers` lays the answers, device 1's first. Assumes nothing.
use Rattle.std.proofs.Common.{arith}
use Rattle.registers.proofs.StateLaws.{room_at, pin_small}
use Rattle.registers.proofs.ReadLaws.{turn}
use Rattle.registers.proofs.read.put_answers.Goals as goal

pub put_answer-requires : goal.put_answer-requires
put_answer-requires c = (
  omega (arith, c.requires.1.whole, room_at c.args.n.count _ _ 1 _ c.spot-from.ensures (omega arith) (omega arith)),
  pin_small c.args.n.count _ _ c.args.state.now c.requires.1 c.pin_spot-pin.ensures (omega arith),
  omega arith,
)

pub loop-k-preserved : goal.loop-k-preserved
loop-k-preserved c =
    let a = c.args in
    let l = c.loop-k in
    turn a.n.count a.group a.state.now (omega arith) c.requires.1.whole l.k c.spot-from.result c.pin_spot-pin.result a.part.now l.part c.put_answer.new.part
    (omega arith) c.spot-from.ensures c.pin_spot-pin.ensures (omega arith) l.invariant.1 c.put_answer.ensures
