-- `tally::add` meets its contract: each return is a case of `Adds`. Assumes nothing.
use Rattle.std.proofs.Common.{sym}
use Rattle.std.proofs.lemmas.Result.{err_from_is_err_and}
use Rattle.lent.specs.Number.{number}
use Rattle.tally.specs.Tally.{added}
use Rattle.tally.proofs.TallyCases.{refused_1, refused_3, summed}
use Rattle.tally.proofs.add.Goals as goal

pub returns-in_err-of : goal.returns-in_err-of
unfolding added number
returns-in_err-of c =
    let (e, is, from) = err_from_is_err_and c.from_residual.result c.from_residual.ensures.1 in
    let err = c.in_err-of.ensures.err in
    rw (is, from, err.0) (refused_1 _ _ err.1)

pub returns-then-any_above : goal.returns-then-any_above
unfolding added number
returns-then-any_above c = refused_3 _ _ c.in_ok-of.ensures.ok.1 (sym c.if-any_above.ensures)

pub returns : goal.returns
returns c = rw (c.ok_or.ensures.value, c.sum.ensures) (summed _ _ c.in_ok-of.ensures.ok.1 (sym c.if-any_above.ensures) _ c.count_all.ensures)
