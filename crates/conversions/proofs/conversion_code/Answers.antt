-- `conversions::conversion_code` builds what the record says, case by case of its tests. Assumes nothing.
use Rattle.std.proofs.Common.{arith, sym, ◌∙◌}
use Rattle.lent.specs.Number.{number}
use Rattle.conversions.specs.Flat.{coded}
use Rattle.conversions.proofs.ConversionLaws.{bounds, inside, ready, code_between}
use Rattle.conversions.proofs.ConversionCases.{no_command, no_field, built}
use Rattle.conversions.proofs.conversion_code.Goals as goal

pub returns-then-command-gt12 : goal.returns-then-command-gt12
unfolding coded number
returns-then-command-gt12 c = no_command _ _ _ _ _ (omega arith)

pub returns-then-not-are_within : goal.returns-then-not-are_within
unfolding coded number
returns-then-not-are_within c =
    let row = c.pattern_at-p in
    no_field _ _ _ _ _ (omega arith) (rw (← row.ensures) (sym c.are_within.ensures ∙ c.if-not-are_within.true))

pub code_by-requires : goal.code_by-requires
code_by-requires c =
    let parts = c.args.parts in
    let row = c.pattern_at-p in
    ready
    row.result
    parts.fields
    (rw row.ensures (bounds parts.command (omega arith)))
    (sym c.are_within.ensures ∙ c.if-not-are_within.false)

pub overflow_cast-result : goal.overflow_cast-result
overflow_cast-result c =
    let parts = c.args.parts in
    let row = c.pattern_at-p in
    let f = parts.fields in
    omega (arith, c.code_by.ensures, (code_between row.result f (rw row.ensures (bounds parts.command (omega arith))) (inside row.result f (sym c.are_within.ensures ∙ c.if-not-are_within.false))).1)

pub returns : goal.returns
unfolding coded
returns c =
    let row = c.pattern_at-p in
    built _ _ _ _ _ (omega arith) _ (rw (← row.ensures) (sym c.are_within.ensures ∙ c.if-not-are_within.false)) (rw (← row.ensures) c.code_by.ensures)
