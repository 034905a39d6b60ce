-- `frames::commands::unlisted`: by what taking the code apart says. Assumes nothing.
use Rattle.std.proofs.Common.{ap, sym, ◌∙◌}
use Rattle.frames.specs.Answers.{kind_given, group_given, kind_number}
use Rattle.frames.specs.Commands.{Row}
use Rattle.frames.proofs.Search.{asked}
use Rattle.frames.proofs.commands.unlisted.Goals as goal

pub returns-in_err-ok : goal.returns-in_err-ok
unfolding kind_given group_given
returns-in_err-ok c =
    let e = rw (sym c.ok.ensures.value ∙ c.in_err-ok.was) at (asked c.args.code c.conversion_of.result c.conversion_of.ensures.number) in
    rw c.from_residual.ensures (sym (ap (λ (r : Row). r.kind) e), sym (ap (λ (r : Row). r.group) e))

pub returns : goal.returns
unfolding kind_given group_given kind_number
returns c =
    let e = rw (sym c.ok.ensures.value ∙ c.in_ok-ok.was) at (asked c.args.code c.conversion_of.result c.conversion_of.ensures.number) in
    (sym (ap (λ (r : Row). r.kind) e), sym (ap (λ (r : Row). r.group) e))
