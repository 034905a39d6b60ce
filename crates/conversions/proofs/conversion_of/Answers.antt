-- `conversions::conversion_of` takes apart as the record says, case by case of its tests. Assumes nothing.
use Rattle.std.proofs.Common.{arith}
use Rattle.std.proofs.lemmas.Result.{err_from_is_err_and}
use Rattle.lent.specs.Number.{number}
use Rattle.conversions.specs.Flat.{taken}
use Rattle.conversions.proofs.ConversionLaws.{bounds}
use Rattle.conversions.proofs.ConversionCases.{no_conversion, taken_apart, found_one, found_none}
use Rattle.conversions.proofs.conversion_of.Goals as goal

pub returns-in_err-command : goal.returns-in_err-command
unfolding taken number
returns-in_err-command c =
    let (e, is, from) = err_from_is_err_and c.from_residual.result c.from_residual.ensures.1 in
    let none = found_none _ _ _ _ c.command_of.ensures c.ok_or.ensures.value _ c.in_err-command.was in
    rw (is, from, none.0) (no_conversion c.args.code none.1)

pub fields_by-requires : goal.fields_by-requires
fields_by-requires c =
    let row = c.pattern_at in
    let b = bounds _ (found_one _ _ _ _ c.command_of.ensures c.ok_or.ensures.value _ c.in_ok-command.was).1 in
    (rw row.ensures b.dcp, rw row.ensures b.pup)

pub pattern_at-requires : goal.pattern_at-requires
pattern_at-requires c = (found_one _ _ _ _ c.command_of.ensures c.ok_or.ensures.value _ c.in_ok-command.was).1

pub overflow_cast-result : goal.overflow_cast-result
overflow_cast-result c = omega (arith, (found_one _ _ _ _ c.command_of.ensures c.ok_or.ensures.value _ c.in_ok-command.was).1)

pub returns : goal.returns
unfolding taken
returns c =
    let its = found_one _ _ _ _ c.command_of.ensures c.ok_or.ensures.value _ c.in_ok-command.was in
    taken_apart _ _ c.fields_by.result its.0 its.1 (rw (← c.pattern_at.ensures) c.fields_by.ensures)
