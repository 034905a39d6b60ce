-- `wirelog::put::put_head`: length and kind, each low byte first. Assumes nothing.
use Rattle.std.proofs.Common.{◌++◌, ap, ap₂, ◌∙◌, length, arith}
use Rattle.lent.proofs.Over.{over_two, over_full}
use Rattle.wirelog.proofs.PutLaws.{bytes_of_two}
use Rattle.wirelog.proofs.put.put_head.Goals as goal

pub returns : goal.returns
returns c =
    let counted = c.copy_from_slice in
    let kind = c.copy_from_slice-2 in
    let first = counted.ensures.after ∙ c.to_le_bytes.ensures in
    let second = kind.ensures.after ∙ c.to_le_bytes-2.ensures in
    over_two counted.new.self kind.new.self c.args.part.now 2 4 (ap length first) (omega (arith, ap length second)) (omega arith)
    ∙ over_full (counted.new.self ++ kind.new.self) c.args.part.now (simp (first, second) (omega arith))
    ∙ ap₂ ◌++◌ (first ∙ bytes_of_two _ (omega arith)) (second ∙ bytes_of_two _ (omega arith))
