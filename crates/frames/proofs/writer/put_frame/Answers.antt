-- `frames::writer::put_frame` lays the frame over the output: the command group, then what its kind puts behind it. Assumes nothing.
use Rattle.std.proofs.Common.{◌+◌, ◌-◌, ◌*◌, ◌<◌, ◌++◌, length, take, drop, ap, sym, ◌∙◌, arith}
use mathlib.Core.Logic.{⊎_elim}
use Rattle.lent.proofs.Over.{filled}
use Rattle.pec.specs.Group.{two_bytes}
use Rattle.frames.specs.Answers.{kind_number}
use Rattle.frames.proofs.Found.{code_below}
use Rattle.frames.proofs.KindCases.{needs_data, length_long, length_least, body_write, body_read}
use Rattle.frames.proofs.FrameLaws.{frame_with, frame_alone}
use Rattle.frames.proofs.writer.put_frame.Goals as goal

pub slice_bounds-put_command-end : goal.slice_bounds-put_command-end
slice_bounds-put_command-end c = omega (arith, length_least c.args.n.count (kind_number c.args.kind))

pub put_command-requires : goal.put_command-requires
put_command-requires c =
    let a = c.args in
    (omega (arith, code_below a.code a.kind c.requires.0), omega (arith, length_least a.n.count (kind_number a.kind)))

pub slice_bounds-put_groups-end : goal.slice_bounds-put_groups-end
unfolding kind_number
slice_bounds-put_groups-end c =
    let w = ap kind_number c.in-Write.is in
    omega (arith, length_long c.args.n.count (kind_number c.args.kind) (omega arith))

pub put_groups-requires : goal.put_groups-requires
unfolding kind_number
put_groups-requires c =
    let a = c.args in
    let w = ap kind_number c.in-Write.is in
    (omega (arith, needs_data a.n.count (kind_number a.kind) w), omega (arith, length_long a.n.count (kind_number a.kind) (omega arith)))

pub slice_bounds-fill-end : goal.slice_bounds-fill-end
unfolding kind_number
slice_bounds-fill-end c =
    let r = ap kind_number c.in-Read.is in
    omega (arith, length_long c.args.n.count (kind_number c.args.kind) (omega arith))

pub returns-in-Write : goal.returns-in-Write
unfolding two_bytes kind_number
returns-in-Write c =
    let a = c.args in
    let n = a.n.count in
    let w = ap kind_number c.in-Write.is in
    let room = length_long n (kind_number a.kind) (omega arith) in
    let six = needs_data n (kind_number a.kind) w in
    frame_with n a.code (kind_number a.kind) a.bytes.now a.out.now c.put_command.new.part c.requires.0 c.put_command.ensures
    c.put_groups.new.part
    (body_write n (kind_number a.kind) a.bytes.now w ∙ sym c.put_groups.ensures)
    (omega arith)
    (omega arith)

pub returns-in-Read : goal.returns-in-Read
unfolding two_bytes kind_number
returns-in-Read c =
    let a = c.args in
    let n = a.n.count in
    let r = ap kind_number c.in-Read.is in
    let room = length_long n (kind_number a.kind) (omega arith) in
    let command = c.put_command.new.part in
    let clock = c.fill.new.part in
    frame_with n a.code (kind_number a.kind) a.bytes.now a.out.now command c.requires.0 c.put_command.ensures clock
    (body_read n (kind_number a.kind) a.bytes.now r
    ∙ sym (filled clock 255 (length (take (4 + 8 * n - 4) (drop 4 (command ++ drop 4 a.out.now)))) (8 * n) c.fill.ensures (omega arith)))
    (omega arith)
    (omega arith)

pub returns-in-Clear : goal.returns-in-Clear
unfolding two_bytes kind_number
returns-in-Clear c =
    let a = c.args in
    let short : 2 < kind_number a.kind = ⊎_elim (λ e. omega (arith, ap kind_number e)) (λ e. omega (arith, ap kind_number e)) c.in-Clear.is in
    frame_alone a.n.count a.code (kind_number a.kind) a.bytes.now a.out.now c.put_command.new.part c.requires.0 c.put_command.ensures short
