-- `wirelog::put::put_record` lays the record over the output: length and kind, then the body. Assumes nothing.
use Rattle.std.proofs.Common.{ap, ap₂, ◌∙◌, List, ◌++◌, ◌+◌, length, arith}
use Rattle.lent.specs.LowFirst.{low_first}
use Rattle.lent.specs.Memory.{over}
use Rattle.lent.proofs.Over.{over_two}
use Rattle.wirelog.specs.Record.{record_of}
use Rattle.wirelog.proofs.put.put_record.Goals as goal

pub returns : goal.returns
unfolding record_of low_first
returns c =
    let head = c.put_head in
    let body = c.args.body.now in
    let copy = c.copy_from_slice in
    over_two head.new.part copy.new.self c.args.out.now 4 (4 + length body) (ap length head.ensures) (omega (arith, copy.ensures.len)) (omega arith)
    ∙ ap (λ (l : List _). over l c.args.out.now) (ap₂ ◌++◌ head.ensures copy.ensures.after)
