-- `link::carry` is the step of our rig, by the contracts of the three entries. Assumes nothing.
use Rattle.std.proofs.Common.{ap, ◌∙◌, arith}
use Rattle.lent.specs.Number.{number_given}
use Rattle.frames.proofs.FrameParts.{written_fits}
use Rattle.link.specs.Sending.{Sending}
use Rattle.link.proofs.Results.{number_kept, written_length}
use Rattle.link.proofs.Carrying.{carried}
use Rattle.link.proofs.carry.Goals as goal

pub slice_bounds-lay_noise-end : goal.slice_bounds-lay_noise-end
slice_bounds-lay_noise-end c = omega (arith, c.unwrap_or-length.ensures ∙ written_length c.write-written.result, written_fits _ _ _ _ _ _ c.write-written.ensures)

pub slice_bounds-serve-end : goal.slice_bounds-serve-end
slice_bounds-serve-end c = omega (arith, c.unwrap_or-length.ensures ∙ written_length c.write-written.result, written_fits _ _ _ _ _ _ c.write-written.ensures)

pub returns : goal.returns
returns c =
    let a = c.args in
    let s : Sending = record {
      code = a.code;
      bytes = a.bytes.now;
      out = a.out.now;
      reply = a.reply.now;
      read = a.read.now;
      marks = a.marks.now;
      forth = a.forth.now;
      back = a.back.now;
    } in
    let made = c.write-written in
    let length = c.unwrap_or-length in
    let size = length.ensures ∙ written_length made.result in
    let forth = c.lay_noise in
    let served = c.serve-heard in
    let returned = c.min-returned in
    let back = c.lay_noise-2 in
    let given = c.read-asked in
    carried a.n s a.state.now made.result c.and.result length.result made.new.out forth.new.part served.result served.new.state served.new.reply
    returned.result back.new.part given.result given.new.bytes given.new.marks
    made.ensures (ap number_given c.and.ensures ∙ number_kept made.result) size (omega (arith, size, written_fits _ _ _ _ _ _ made.ensures, made.auto.out)) forth.ensures served.ensures returned.ensures back.ensures given.ensures
