-- `registers::write::store_six` stores six bytes, and of CFGA keeps DTEN. Assumes nothing.
use Rattle.std.proofs.Common.{sym, ◌∙◌, arith}
use Rattle.lent.proofs.Over.{over_full}
use Rattle.registers.specs.Dten.{dten}
use Rattle.registers.proofs.DtenLaws.{dten_laid, no_dten}
use Rattle.registers.proofs.write.store_six.Goals as goal

pub returns-then-group-ne-CFGA : goal.returns-then-group-ne-CFGA
returns-then-group-ne-CFGA c =
    let a = c.args in
    c.copy_six.ensures ∙ over_full a.bytes.now a.registers.now (omega arith)
    ∙ sym (no_dten a.group (dten a.registers.now) a.bytes.now c.if-group-ne-CFGA.true)

pub returns : goal.returns
unfolding dten
returns c =
    let a = c.args in
    let laid = c.copy_six.ensures ∙ over_full a.bytes.now a.registers.now (omega arith) in
    dten_laid a.group (dten a.registers.now) _ a.bytes.now _ (omega arith) laid c.with_bit.ensures
