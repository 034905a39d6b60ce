-- `host::reader::read_groups` lays six bytes and a mark for each device. Assumes nothing.
use Rattle.std.proofs.Common.{◌+◌, ◌-◌, ◌*◌, length-set, refl, ◌∙◌, arith}
use borrow.Rule.Slice.PartMut.{same_len_mid}
use Rattle.lent.proofs.Over.{over_none}
use Rattle.host.specs.Reader.{all_bytes, all_marks}
use Rattle.host.proofs.ReaderLaws.{turn_bytes, turn_marks}
use Rattle.host.proofs.reader.read_groups.Goals as goal

pub loop-k-init : goal.loop-k-init
unfolding all_bytes all_marks
loop-k-init c = (refl, refl, over_none _, over_none _)

pub loop-k-preserved : goal.loop-k-preserved
loop-k-preserved c =
    let l = c.loop-k in
    let a = c.args in
    let one = c.read_group in
    let at = 6 * l.k in (
      same_len_mid at (at + 6 - at) l.bytes one.new.part one.auto.part ∙ l.invariant.0,
      simp length-set l.invariant.1,
      turn_bytes l.k a.reply.now a.bytes.now l.bytes one.new.part (omega arith) (omega arith) l.invariant.2 one.ensures.1,
      turn_marks l.k a.reply.now a.marks.now l.marks c.into.result (omega arith) l.invariant.3 (c.into.ensures ∙ one.ensures.0),
    )
