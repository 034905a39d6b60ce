-- `host::reader::read_group`: the two tests make the mark, and the part is zeros or the six bytes. Assumes nothing.
use Rattle.std.proofs.Common.{◌≡◌, length, take, sym, ◌∙◌, arith}
use lib.Seq.{length-take-le}
use Rattle.lent.proofs.Over.{filled, over_full}
use Rattle.host.specs.Sorts.{mark_number}
use Rattle.host.proofs.MarkLaws.{mark_silent, mark_read, mark_wrong, bytes_silent, bytes_read, bytes_wrong}
use Rattle.host.proofs.reader.read_group.Goals as goal

pub returns-then-silent : goal.returns-then-silent
unfolding mark_number
returns-then-silent c =
    let own = sym c.is_silent-silent.ensures ∙ c.if-silent.true in
    let zeros = filled _ 0 (length c.args.part.now) 6 c.fill.ensures (omega arith) in
    (sym (mark_silent _ own), zeros ∙ sym (bytes_silent _ own))

pub returns-then-not-is_right : goal.returns-then-not-is_right
unfolding mark_number
returns-then-not-is_right c =
    let sounds = sym c.is_silent-silent.ensures ∙ c.if-silent.false in
    let own = sym c.is_right.ensures ∙ c.if-not-is_right.true in
    let zeros = filled _ 0 (length c.args.part.now) 6 c.fill.ensures (omega arith) in
    (sym (mark_wrong _ sounds own), zeros ∙ sym (bytes_wrong _ sounds own))

pub returns : goal.returns
unfolding mark_number
returns c =
    let g = c.args.group.now in
    let mark = mark_read g (sym c.is_silent-silent.ensures ∙ c.if-silent.false) (sym c.is_right.ensures ∙ c.if-not-is_right.false) in
    let six : length (take 6 g) ≡ 6 = length-take-le 6 g (omega (arith, c.requires)) in
    (sym mark, c.copy_six.ensures ∙ over_full (take 6 g) _ (omega arith) ∙ sym (bytes_read g mark))
