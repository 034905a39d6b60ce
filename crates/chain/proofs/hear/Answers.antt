-- `chain::hear` meets the chain's record: each return by the law of its number. Assumes nothing.
use Rattle.std.proofs.Common.{refl, sym, ◌∙◌, arith}
use Rattle.lent.specs.Number.{number}
use Rattle.lent.specs.declared.refusal.Refusal.{Refusal}
use Rattle.frames.specs.Answers.{kind_number, kind_given, group_given}
use Rattle.frames.proofs.Found.{kind_least}
use Rattle.frames.proofs.Lookup.{group_below}
use Rattle.registers.specs.Effect.{silence}
use Rattle.registers.proofs.ClearLaws.{clear_room}
use Rattle.registers.proofs.Obeyed.{answered_over}
use Rattle.chain.specs.Chain.{code_of, fills}
use Rattle.chain.proofs.Numbers.{number_6, number_4, number_2, number_6_length, number_0, silent, done}
use Rattle.chain.proofs.hear.Goals as goal

pub returns-then-length-lt4 : goal.returns-then-length-lt4
unfolding fills number
returns-then-length-lt4 c =
    let a = c.args in
    let r = c.refuse.ensures in
    silent a.n.count a.frame.now a.state.now a.reply.now Refusal.WrongFrame _ _ r.0 refl refl r.1
    (number_6 _ _ _ _ c.requires.0 c.requires.1 c.requires.2 c.if-length-lt4.true)

pub returns-then-not-is_right : goal.returns-then-not-is_right
unfolding fills number
returns-then-not-is_right c =
    let a = c.args in
    let r = c.refuse-then-not-is_right.ensures in
    let wrong = sym c.is_right.ensures ∙ c.if-not-is_right.true in
    silent a.n.count a.frame.now a.state.now a.reply.now Refusal.WrongPec _ _ r.0 refl refl r.1
    (number_4 _ _ _ _ c.requires.0 c.requires.1 c.requires.2 c.if-length-lt4.false wrong)

pub returns-in_default : goal.returns-in_default
unfolding fills number kind_given
returns-in_default c =
    let a = c.args in
    let r = c.refuse-in_default.ensures in
    let good = sym c.is_right.ensures ∙ c.if-not-is_right.false in
    silent a.n.count a.frame.now a.state.now a.reply.now Refusal.UnknownCommand _ _ r.0 refl refl r.1
    (number_2 _ _ _ _ c.requires.0 c.requires.1 c.requires.2 c.if-length-lt4.false good 0 c.in_default.ensures.0 refl)

pub returns-then-length-frame_length : goal.returns-then-length-frame_length
unfolding fills number kind_given
returns-then-length-frame_length c =
    let a = c.args in
    let r = c.refuse-then-length-frame_length.ensures in
    let good = sym c.is_right.ensures ∙ c.if-not-is_right.false in
    silent a.n.count a.frame.now a.state.now a.reply.now Refusal.WrongFrame _ _ r.0 refl refl r.1
    (number_6_length _ _ _ _ c.requires.0 c.requires.1 c.requires.2 c.if-length-lt4.false good _ c.in-Some.ensures.0 (λ z. omega (arith, kind_least c.in-Some.command.kind)) _
    (rw c.into.ensures at c.frame_length.ensures) c.if-length-frame_length.true)

pub obey-requires : goal.obey-requires
unfolding code_of kind_given group_given
obey-requires c =
    let code = code_of c.args.frame.now in
    let f = c.in-Some.ensures in (
      omega (arith, f.1, group_below code),
      (λ e. rw f.1 (clear_room code (sym f.0 ∙ e))),
      c.if-length-frame_length.false ∙ rw c.into.ensures at c.frame_length.ensures,
      c.requires.1,
      omega arith,
    )

pub returns : goal.returns
unfolding silence kind_given group_given
returns c =
    let a = c.args in
    let f = c.in-Some.ensures in
    let o = c.obey.ensures in
    let good = sym c.is_right.ensures ∙ c.if-not-is_right.false in
    done a.n.count a.frame.now a.state.now a.reply.now (kind_number c.in-Some.command.kind) c.in-Some.command.group _ _ _
    (number_0 _ _ _ _ c.requires.0 c.requires.1 c.requires.2 c.if-length-lt4.false good _ f.0 (λ z. omega (arith, kind_least c.in-Some.command.kind)) _
    (rw c.into.ensures at c.frame_length.ensures) c.if-length-frame_length.false)
    f.0 f.1 o.0 o.1
    (answered_over a.n.count _ _ _ a.frame.now a.state.now a.reply.now _ _ c.fill.ensures (omega arith) c.obey.auto.part c.requires.2 o.2)
