-- `frames::groups::put_command`: a command's two bytes, and their check word behind them. Assumes nothing.
use Rattle.std.proofs.Common.{◌++◌, ap, ap₂, ◌∙◌, length, arith}
use Rattle.lent.proofs.Over.{over_two, over_full}
use Rattle.pec.specs.Group.{two_bytes, with_pec}
use Rattle.pec.specs.Register.{pec_of}
use Rattle.frames.proofs.GroupLaws.{high_first}
use Rattle.frames.proofs.groups.put_command.Goals as goal

pub returns : goal.returns
unfolding with_pec two_bytes
returns c =
    let first = high_first c.args.code c.to_be_bytes-command.result c.requires.0 c.to_be_bytes-command.ensures in
    let word = high_first c.pec.result c.to_be_bytes-word.result c.pec.type_inv c.to_be_bytes-word.ensures in
    let command = c.copy_from_slice in
    let behind = c.copy_from_slice-2 in
    let one = command.ensures.after ∙ first in
    let two = behind.ensures.after ∙ word ∙ ap two_bytes (c.pec.ensures.word ∙ ap pec_of first) in
    over_two command.new.self behind.new.self c.args.part.now 2 4 (ap length one) (omega (arith, ap length two)) (omega arith)
    ∙ over_full (command.new.self ++ behind.new.self) c.args.part.now (simp (one, two) (omega arith))
    ∙ ap₂ ◌++◌ one two
