-- `frames::writer::write` meets its record: each return by the law of its number. Assumes nothing.
use Rattle.std.proofs.Common.{ℕ, ◌≡◌, refl, sym, ap, ◌∙◌, arith}
use Rattle.std.proofs.lemmas.Result.{err_from_is_err_and}
use Rattle.lent.specs.Memory.{over}
use Rattle.lent.specs.Number.{number, written}
use Rattle.frames.specs.Answers.{kind_number}
use Rattle.frames.specs.Kind.{data_needed, frame_length}
use Rattle.frames.specs.Commands.{kind_of}
use Rattle.frames.specs.Frame.{frame_of}
use Rattle.frames.proofs.Found.{is_known, none_given, some_given, kind_found, none_found}
use Rattle.frames.proofs.Numbers.{number_1, number_2, number_3, number_5, number_0, refused, accepted}
use Rattle.frames.proofs.writer.write.Goals.{In_ok-command, After-data_needed, After-frame_length-length}
use Rattle.frames.proofs.writer.write.Goals as goal

-- the command is of the code's kind
kind : (c : In_ok-command) → kind_number c.in_ok-command.command.kind ≡ kind_of c.args.code
kind c = kind_found c.args.code c.find.result c.find.ensures c.in_ok-command.command (some_given _ _ _ _ c.ok_or.ensures.value c.in_ok-command.was)

-- the lengths, by the N that was asked for
need : (c : After-data_needed) → c.data_needed.result ≡ data_needed c.args.n (kind_number c.in_ok-command.command.kind)
need c = c.data_needed.ensures ∙ ap (λ (n : ℕ). data_needed n (kind_number c.in_ok-command.command.kind)) c.in_ok-devices.ensures.ok.0

size : (c : After-frame_length-length) → c.frame_length-length.result ≡ frame_length c.args.n (kind_number c.in_ok-command.command.kind)
size c =
    c.frame_length-length.ensures
    ∙ ap (λ (kind : ℕ). frame_length c.in_ok-devices.devices.count kind) c.into.ensures
    ∙ ap (λ (n : ℕ). frame_length n (kind_number c.in_ok-command.command.kind)) c.in_ok-devices.ensures.ok.0

pub returns-in_err-devices : goal.returns-in_err-devices
unfolding written number
returns-in_err-devices c =
    let (e, is, from) = err_from_is_err_and c.from_residual.result c.from_residual.ensures.1 in
    rw (is, from, c.in_err-devices.ensures.err.0) (refused _ _ _ _ 1 refl (number_1 _ _ _ _ c.in_err-devices.ensures.err.1))

pub returns-in_err-command : goal.returns-in_err-command
unfolding written number
returns-in_err-command c =
    let (e, is, from) = err_from_is_err_and c.from_residual-in_err-command.result c.from_residual-in_err-command.ensures.1 in
    let none = none_given _ _ _ _ c.ok_or.ensures.value c.in_err-command.was in
    rw (is, from, none.1)
    (refused _ _ _ _ 2 refl (number_2 _ _ _ _ c.in_ok-devices.ensures.ok.1 0 (sym (none_found c.args.code c.find.result c.find.ensures none.0)) refl))

pub returns-then-bytes-data_needed : goal.returns-then-bytes-data_needed
unfolding written number
returns-then-bytes-data_needed c =
    let at = goal.at.returns-then-bytes-data_needed c in
    let k = kind at.In_ok-command in
    let known = λ (z : kind_number c.in_ok-command.command.kind ≡ 0). is_known c.args.code c.in_ok-command.command.kind k (sym k ∙ z) in
    refused _ _ _ _ 3 refl (number_3 _ _ _ _ c.in_ok-devices.ensures.ok.1 _ k known _ (need at.After-data_needed) c.if-bytes-data_needed.true)

pub returns-then-out-length : goal.returns-then-out-length
unfolding written number
returns-then-out-length c =
    let at = goal.at.returns-then-out-length c in
    let k = kind at.In_ok-command in
    let known = λ (z : kind_number c.in_ok-command.command.kind ≡ 0). is_known c.args.code c.in_ok-command.command.kind k (sym k ∙ z) in
    refused _ _ _ _ 5 refl
    (number_5 _ _ _ _ c.in_ok-devices.ensures.ok.1 _ k known _ (need at.After-data_needed) c.if-bytes-data_needed.false _ (size at.After-frame_length-length)
    c.if-out-length.true)

pub put_frame-requires : goal.put_frame-requires
put_frame-requires c =
    let at = goal.at.put_frame-requires c in
    let long = c.frame_length-length.ensures ∙ ap (λ (kind : ℕ). frame_length c.in_ok-devices.devices.count kind) c.into.ensures in
    (kind at.In_ok-command, c.if-bytes-data_needed.false ∙ c.data_needed.ensures, omega arith)

pub returns : goal.returns
unfolding written
returns c =
    let at = goal.at.returns c in
    let k = kind at.In_ok-command in
    let known = λ (z : kind_number c.in_ok-command.command.kind ≡ 0). is_known c.args.code c.in_ok-command.command.kind k (sym k ∙ z) in
    let long = size at.After-frame_length-length in
    accepted _ _ _ _ _ _ _ k
    (number_0 _ _ _ _ c.in_ok-devices.ensures.ok.1 _ k known _ (need at.After-data_needed) c.if-bytes-data_needed.false _ long c.if-out-length.false) long
    (c.put_frame.ensures ∙ ap (λ (n : ℕ). over (frame_of n c.args.code c.args.bytes.now) c.args.out.now) c.in_ok-devices.ensures.ok.0)
