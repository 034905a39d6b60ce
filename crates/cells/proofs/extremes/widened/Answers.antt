-- `cells::extremes::widened`: by its tests. Assumes nothing.
use borrow.Author.Tests.{lt-ltb, le-ltb}
use Rattle.lent.specs.Refusal.{pick}
use Rattle.cells.specs.Extremes.{widened}
use Rattle.cells.proofs.extremes.widened.Goals as goal
use Rattle.cells.proofs.extremes.widened.Goals.{then-count-range, else-count-range}

pub returns-in_default : goal.returns-in_default
unfolding widened
returns-in_default c = rw c.in_default.is

pub returns-then-range-count : goal.returns-then-range-count
unfolding widened pick
returns-then-range-count c =
    let above = c.if-range-count.true in
    elim c.if-count-range.branch [
      | then-count-range w ↦ rw (w.range-is, c.in-Some.is, lt-ltb _ _ w.if-count-range.true, lt-ltb _ _ (rw w.range-is at above))
      | else-count-range w ↦ rw (w.range-is, c.in-Some.is, le-ltb _ _ w.if-count-range.false, lt-ltb _ _ (rw w.range-is at above))
    ]

pub returns-else-range-count : goal.returns-else-range-count
unfolding widened pick
returns-else-range-count c =
    let none_above = c.if-range-count.false in
    elim c.if-count-range.branch [
      | then-count-range w ↦ rw (w.range-is, c.in-Some.is, lt-ltb _ _ w.if-count-range.true, le-ltb _ _ (rw w.range-is at none_above))
      | else-count-range w ↦ rw (w.range-is, c.in-Some.is, le-ltb _ _ w.if-count-range.false, le-ltb _ _ (rw w.range-is at none_above))
    ]
