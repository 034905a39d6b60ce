-- `registers::read::put_answer` shows a group, and of CFGA the pin as DTEN. Assumes nothing.
use Rattle.std.proofs.Common.{sym, ap, ◌∙◌, arith}
use Rattle.lent.proofs.Over.{over_full}
use Rattle.pec.specs.Group.{with_pec}
use Rattle.registers.proofs.DtenLaws.{dten_laid, no_dten}
use Rattle.registers.proofs.read.put_answer.Goals as goal

pub returns-then-group-ne-CFGA : goal.returns-then-group-ne-CFGA
returns-then-group-ne-CFGA c =
    let a = c.args in
    c.put_group.ensures ∙ ap with_pec (sym (no_dten a.group a.pin a.registers.now (λ e. omega arith)))

pub returns : goal.returns
returns c =
    let a = c.args in
    let laid = c.copy_six.ensures ∙ over_full a.registers.now _ (omega arith) in
    c.put_group-2.ensures ∙ ap with_pec (dten_laid a.group a.pin _ a.registers.now _ (omega arith) laid c.with_bit.ensures)
