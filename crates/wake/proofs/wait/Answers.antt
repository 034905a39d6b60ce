-- `wake::wait` meets its contract: each return is a case of the rule. Assumes nothing.
use Rattle.std.proofs.Common.{arith}
use Rattle.std.proofs.lemmas.Result.{err_from_is_err_and}
use Rattle.lent.specs.Number.{number}
use Rattle.wake.specs.Flat.{woken}
use Rattle.wake.proofs.WakeCases.{refused, fresh, idle}
use Rattle.wake.proofs.wait.Goals as goal

pub returns-in_err-of : goal.returns-in_err-of
unfolding woken number
returns-in_err-of c =
    let (e, is, from) = err_from_is_err_and c.from_residual.result c.from_residual.ensures.1 in
    let err = c.in_err-of.ensures.err in
    rw (is, from, err.0) (refused _ _ _ err.1)

pub returns-then-gap-lt-IDLE : goal.returns-then-gap-lt-IDLE
unfolding woken
returns-then-gap-lt-IDLE c = fresh _ _ _ c.in_ok-of.ensures.ok.1 (omega arith)

pub returns-else-gap-lt-IDLE : goal.returns-else-gap-lt-IDLE
unfolding woken
returns-else-gap-lt-IDLE c = idle _ _ _ c.in_ok-of.ensures.ok.1 (omega arith)
