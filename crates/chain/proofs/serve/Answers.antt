-- `chain::serve` meets its record: the refusals that change nothing, and then what is heard. Assumes nothing.
use Rattle.std.proofs.Common.{rules, refl, sym, ◌∙◌}
use Rattle.lent.specs.Number.{number}
use Rattle.lent.specs.declared.refusal.Refusal.{Refusal}
use Rattle.registers.proofs.StateLaws.{above_none}
use Rattle.chain.specs.Chain.{fills}
use Rattle.chain.proofs.Numbers.{number_1, number_3, number_3_pin, number_5, untouched}
use Rattle.chain.proofs.serve.Goals as goal

pub returns-in_err-devices : goal.returns-in_err-devices
unfolding fills number
returns-in_err-devices c =
    let a = c.args in
    let e = c.in_err-devices.ensures.err in
    untouched a.n a.frame.now a.state.now a.reply.now Refusal.ChainSize c.from_residual.result (search rules) refl refl (number_1 _ _ _ _ e.1)

pub returns-then-state-state_length : goal.returns-then-state-state_length
unfolding fills number
returns-then-state-state_length c =
    let a = c.args in
    let d = c.in_ok-devices.ensures.ok in
    untouched a.n a.frame.now a.state.now a.reply.now Refusal.WrongLength _ refl refl refl
    (number_3 _ _ _ _ d.1 (λ e. c.if-state-state_length.true (e ∙ sym (rw d.0 at c.state_length.ensures))))

pub returns-then-pin_above : goal.returns-then-pin_above
unfolding fills number
returns-then-pin_above c =
    let a = c.args in
    let d = c.in_ok-devices.ensures.ok in
    untouched a.n a.frame.now a.state.now a.reply.now Refusal.WrongLength _ refl refl refl
    (number_3_pin _ _ _ _ d.1 (c.if-state-state_length.false ∙ rw d.0 at c.state_length.ensures) (sym (rw d.0 at c.pin_above.ensures) ∙ c.if-pin_above.true))

pub returns-then-reply-frame : goal.returns-then-reply-frame
unfolding fills number
returns-then-reply-frame c =
    let a = c.args in
    let d = c.in_ok-devices.ensures.ok in
    untouched a.n a.frame.now a.state.now a.reply.now Refusal.ShortOutput _ refl refl refl
    (number_5 _ _ _ _ d.1
    (record {
      whole = c.if-state-state_length.false ∙ rw d.0 at c.state_length.ensures;
      pins = above_none _ _ (sym (rw d.0 at c.pin_above.ensures) ∙ c.if-pin_above.false);
    })
    c.if-reply-frame.true)

pub hear-requires : goal.hear-requires
hear-requires c =
    let d = c.in_ok-devices.ensures.ok in (
      rw d.0 d.1,
      record { whole = c.if-state-state_length.false ∙ c.state_length.ensures; pins = above_none _ _ (sym c.pin_above.ensures ∙ c.if-pin_above.false) },
      c.if-reply-frame.false,
    )
