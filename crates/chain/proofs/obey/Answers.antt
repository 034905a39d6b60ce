-- `chain::obey`: what each kind of command does. Assumes nothing.
use Rattle.std.proofs.Common.{◌≡◌, ap, ◌∙◌, arith}
use Rattle.frames.specs.Answers.{kind_number}
use Rattle.frames.proofs.KindCases.{length_long}
use Rattle.registers.proofs.Obeyed.{obeyed_write, obeyed_read, obeyed_clear, obeyed_conversion}
use Rattle.chain.proofs.obey.Goals as goal

pub store_groups-requires : goal.store_groups-requires
unfolding kind_number
store_groups-requires c =
    let a = c.args in
    let kind : kind_number a.command.kind ≡ 1 = ap kind_number c.in-Write.is in
    let long = c.requires.2 ∙ length_long a.n.count (kind_number a.command.kind) (omega (arith, kind)) in
    (omega (arith, c.requires.0, c.from-group.ensures), long, c.requires.3.whole, omega (arith, c.requires.4, long))

pub returns-in-Write : goal.returns-in-Write
unfolding kind_number
returns-in-Write c =
    let a = c.args in
    let s = rw c.from-group.ensures at c.store_groups.ensures in
    obeyed_write a.n.count (kind_number a.command.kind) a.command.group a.frame.now a.state.now a.part.now c.requires.2 c.requires.4 _ _ _ (ap kind_number c.in-Write.is) s.0 s.1 s.2

pub put_answers-requires : goal.put_answers-requires
unfolding kind_number
put_answers-requires c =
    let a = c.args in
    let kind : kind_number a.command.kind ≡ 2 = ap kind_number c.in-Read.is in
    let long = c.requires.2 ∙ length_long a.n.count (kind_number a.command.kind) (omega (arith, kind)) in
    (omega (arith, c.requires.0, c.from-group.ensures), c.requires.3, omega (arith, c.requires.4, long))

pub returns-in-Read : goal.returns-in-Read
unfolding kind_number
returns-in-Read c =
    let a = c.args in
    obeyed_read a.n.count (kind_number a.command.kind) a.command.group a.frame.now a.state.now a.part.now c.requires.2 c.requires.4 _ (ap kind_number c.in-Read.is)
    (rw c.from-group.ensures at c.put_answers.ensures)

pub clear_groups-requires : goal.clear_groups-requires
unfolding kind_number
clear_groups-requires c = (rw c.from-group.ensures (c.requires.1 (ap kind_number c.in-Clear.is)), c.requires.3.whole)

pub returns-in-Clear : goal.returns-in-Clear
unfolding kind_number
returns-in-Clear c =
    let a = c.args in
    obeyed_clear a.n.count (kind_number a.command.kind) a.command.group a.frame.now a.state.now a.part.now c.requires.2 c.requires.4 _ _ (ap kind_number c.in-Clear.is)
    c.everyone.ensures (rw c.from-group.ensures at c.clear_groups.ensures)

pub returns-in-Conversion : goal.returns-in-Conversion
unfolding kind_number
returns-in-Conversion c =
    let a = c.args in
    let kind : kind_number a.command.kind ≡ 4 = ap kind_number c.in-Conversion.is in
    obeyed_conversion a.n.count (kind_number a.command.kind) a.command.group a.frame.now a.state.now a.part.now c.requires.2 c.requires.4 _ (omega (arith, kind))
    c.everyone-in-Conversion.ensures
