-- `conversions::command_of`: the search stops at the command that has the code, steps over one that has not, and finds none behind the last. Assumes nothing.
use Rattle.std.proofs.Common.{sym, ◌∙◌, arith}
use Rattle.conversions.proofs.ConversionCases.{given, none_given}
use Rattle.conversions.proofs.ConversionLaws.{found_here, found_on, found_none}
use Rattle.conversions.proofs.command_of.Goals as goal

pub returns-then-has_code : goal.returns-then-has_code
returns-then-has_code c =
    let l = c.loop-command in
    given _ _ (l.invariant.1 ∙ found_here c.args.code l.command (omega arith) (sym c.has_code.ensures ∙ c.if-has_code.true)) (omega arith)

pub loop-command-preserved : goal.loop-command-preserved
loop-command-preserved c =
    let l = c.loop-command in
    (omega arith, l.invariant.1 ∙ found_on c.args.code l.command (omega arith) (sym c.has_code.ensures ∙ c.if-has_code.false))

pub returns : goal.returns
returns c =
    let l = c.loop-command in
    none_given _ (omega (arith, l.invariant.1, found_none c.args.code l.command (omega arith)))
