-- `pec::is_right`: no difference. Assumes nothing.
use Rattle.std.proofs.Common.{ℕ, ◌==◌, ap}
use Rattle.pec.specs.Group.{right}
use Rattle.pec.proofs.is_right.Goals as goal

pub returns : goal.returns
unfolding right
returns c = ap (λ (x : ℕ). x == 0) c.off_by.ensures
