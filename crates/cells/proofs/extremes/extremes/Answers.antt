-- `cells::extremes::extremes` meets its contract: the next cell is taken in where it is valid. Assumes nothing.
use Rattle.std.proofs.Common.{◌≡◌, Some, refl, sym, ap, ◌∙◌, arith}
use Rattle.lent.specs.Refusal.{pick}
use Rattle.cells.specs.Extremes.{outmost, extremes_among, extremes_of}
use Rattle.cells.proofs.Ends.{taken_in, passed_by}
use Rattle.cells.proofs.extremes.extremes.Goals as goal
use Rattle.cells.proofs.extremes.extremes.Goals.{then-is_set, else-is_set}

pub loop-cell-init : goal.loop-cell-init
unfolding outmost extremes_among pick
loop-cell-init c = refl

pub loop-cell-preserved : goal.loop-cell-preserved
loop-cell-preserved c =
    let l = c.loop-cell in
    let e = sym c.is_set.ensures in
    elim c.if-is_set.branch [
      | then-is_set w ↦ w.range-is ∙ ap Some w.widened.ensures ∙ taken_in _ _ l.cell (e ∙ w.if-is_set.true) _ l.invariant
      | else-is_set w ↦ w.range-is ∙ passed_by _ _ l.cell _ l.invariant (e ∙ w.if-is_set.false)
    ]

pub returns : goal.returns
unfolding extremes_of
returns c = let l = c.loop-cell in let all : l.cell ≡ 18 = omega arith in record { range = rw all at l.invariant }
