-- `host::reader::read` meets its record: each return by the law of its number. Assumes nothing.
use Rattle.std.proofs.Common.{◌≡◌, refl, sym, ◌∙◌}
use Rattle.std.proofs.lemmas.Result.{err_from_is_err_and}
use denote.Enum.Bare.{differs_true, differs_false}
use Rattle.lent.specs.Number.{number, number_given}
use Rattle.frames.specs.Answers.{kind_number}
use Rattle.frames.specs.Commands.{kind_of}
use Rattle.frames.specs.contracts.commands.Kind.{the_type}
use Rattle.frames.proofs.Found.{is_known, none_given, some_given, kind_found, none_found}
use Rattle.host.proofs.ReaderNumbers.{no_read, a_read, number_1, number_2, number_7, number_3, number_5_bytes, number_5_marks, number_0, refused, accepted}
use Rattle.host.proofs.reader.read.Goals.{In_ok-command, Else-ne, then-bytes-devices-via-then-bytes-devices, then-bytes-devices-via-else-bytes-devices+then-marks-devices}
use Rattle.host.proofs.reader.read.Goals as goal

-- the command is of the code's kind, and known
kind : (c : In_ok-command) → kind_number c.in_ok-command.command.kind ≡ kind_of c.args.code
kind c = kind_found c.args.code c.find.result c.find.ensures c.in_ok-command.command (some_given _ _ _ _ c.ok_or.ensures.value c.in_ok-command.was)

known : (c : In_ok-command) → kind_number c.in_ok-command.command.kind ≡ 0 → ⊥
known c z = is_known c.args.code c.in_ok-command.command.kind (kind c) (sym (kind c) ∙ z)

-- past the test, it is a read
read : (c : Else-ne) → kind_number c.in_ok-command.command.kind ≡ 2
read c = a_read _ (differs_false the_type tt _ _ (sym c.ne.ensures ∙ c.if-ne.false))

pub returns-in_err-devices : goal.returns-in_err-devices
unfolding number number_given
returns-in_err-devices c =
    let was = c.in_err-devices.ensures.err in
    let (e, is, from) = err_from_is_err_and c.from_residual.result c.from_residual.ensures.1 in
    rw (is, from, was.0) (refused _ _ _ _ _ 1 refl (number_1 _ _ _ _ _ was.1))

pub returns-in_err-command : goal.returns-in_err-command
unfolding number number_given
returns-in_err-command c =
    let none = none_given _ _ _ _ c.ok_or.ensures.value c.in_err-command.was in
    let (e, is, from) = err_from_is_err_and c.from_residual-in_err-command.result c.from_residual-in_err-command.ensures.1 in
    rw (is, from, none.1)
    (refused _ _ _ _ _ 2 refl (number_2 _ _ _ _ _ c.in_ok-devices.ensures.ok.1 0 (sym (none_found c.args.code c.find.result c.find.ensures none.0)) refl))

pub returns-then-ne : goal.returns-then-ne
unfolding number number_given
returns-then-ne c =
    let at = goal.at.returns-then-ne c in
    refused _ _ _ _ _ 7 refl
    (number_7 _ _ _ _ _ c.in_ok-devices.ensures.ok.1 _ (kind at.In_ok-command) (known at.In_ok-command)
    (no_read _ (differs_true the_type _ _ (sym c.ne.ensures ∙ c.if-ne.true))))

pub returns-then-reply-devices : goal.returns-then-reply-devices
unfolding number number_given
returns-then-reply-devices c =
    let at = goal.at.returns-then-reply-devices c in
    let n = c.in_ok-devices.ensures.ok.0 in
    refused _ _ _ _ _ 3 refl
    (number_3 _ _ _ _ _ c.in_ok-devices.ensures.ok.1 _ (kind at.In_ok-command) (known at.In_ok-command) (read at.Else-ne) (rw n at c.if-reply-devices.true))

pub returns-then-bytes-devices : goal.returns-then-bytes-devices
unfolding number number_given
returns-then-bytes-devices c =
    let at = goal.at.returns-then-bytes-devices c in
    let n = c.in_ok-devices.ensures.ok.0 in
    let inside = c.in_ok-devices.ensures.ok.1 in
    let its = kind at.In_ok-command in
    let some = known at.In_ok-command in
    let long = rw n at c.if-reply-devices.false in
    refused _ _ _ _ _ 5 refl
    (elim c.then-bytes-devices.branch [
      | then-bytes-devices-via-then-bytes-devices w ↦
          number_5_bytes _ _ _ _ _ inside _ its some (read at.Else-ne) long (rw n at w.if-bytes-devices.true)
      | then-bytes-devices-via-else-bytes-devices+then-marks-devices w ↦
          number_5_marks _ _ _ _ _ inside _ its some (read at.Else-ne) long (rw n at w.if-bytes-devices.false) (rw n at w.if-marks-devices.true)
    ])

pub returns : goal.returns
unfolding number_given
returns c =
    let at = goal.at.returns c in
    let n = c.in_ok-devices.ensures.ok.0 in
    accepted _ _ _ _ _ _ _
    (number_0 _ _ _ _ _ c.in_ok-devices.ensures.ok.1 _ (kind at.In_ok-command) (known at.In_ok-command) (read at.Else-ne)
    (rw n at c.if-reply-devices.false) (rw n at c.if-bytes-devices.false) (rw n at c.if-marks-devices.false))
    (rw n at c.read_groups.ensures.0) (rw n at c.read_groups.ensures.1)
