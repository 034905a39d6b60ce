-- `cells::reading` meets its contract: each refusal is a case of the record, and a turn of the loop is a cell by what it is. Assumes nothing.
use Rattle.std.proofs.Common.{refl, sym, ◌∙◌, arith}
use Rattle.lent.specs.Word.{bits_where}
use Rattle.lent.proofs.BitsWhere.{bit_fits}
use Rattle.lent.proofs.Over.{over_none}
use Rattle.cells.specs.Cells.{counts_of}
use Rattle.cells.proofs.CellsPassed.{cleared_cell, measured_cell, step_unread, step_cleared, step_measured}
use Rattle.cells.proofs.CellsCases.{groups_wrong, marks_wrong, mark_above, read}
use Rattle.cells.proofs.reading.Goals as goal
use Rattle.cells.proofs.reading.Goals.{then-groups-ne36-via-then-groups-ne36, then-groups-ne36-via-else-groups-ne36+then-marks-ne6, then-groups-ne36-via-else-groups-ne36+else-marks-ne6+then-any_above}
use Rattle.cells.proofs.reading.Goals.{then-is_read+then-held, then-is_read+else-held, else-is_read}

pub returns-then-groups-ne36 : goal.returns-then-groups-ne36
returns-then-groups-ne36 c =
    elim c.then-groups-ne36.branch [
      | then-groups-ne36-via-then-groups-ne36 w ↦ groups_wrong _ _ w.if-groups-ne36.true
      | then-groups-ne36-via-else-groups-ne36+then-marks-ne6 w ↦ marks_wrong _ _ w.if-groups-ne36.false w.if-marks-ne6.true
      | then-groups-ne36-via-else-groups-ne36+else-marks-ne6+then-any_above w ↦
          mark_above _ _ w.if-groups-ne36.false w.if-marks-ne6.false (sym w.any_above.ensures ∙ w.if-any_above.true)
    ]

pub loop-cell-init : goal.loop-cell-init
unfolding counts_of bits_where
loop-cell-init c = record { counts = over_none _; valid = refl; unmeasured = refl }

pub overflow_add-unmeasured : goal.overflow_add-unmeasured
overflow_add-unmeasured c =
    let l = c.loop-cell in
    let read = sym c.is_read.ensures ∙ c.if-is_read.true in
    let held = sym c.count-held.ensures ∙ c.if-held.true in
    omega (arith, bit_fits _ l.cell _ l.invariant.unmeasured 18 _ (omega arith) c.bit-unmeasured.ensures (cleared_cell _ _ l.cell read held).1)

pub overflow_add-valid : goal.overflow_add-valid
overflow_add-valid c =
    let l = c.loop-cell in
    let read = sym c.is_read.ensures ∙ c.if-is_read.true in
    omega (arith, bit_fits _ l.cell _ l.invariant.valid 18 _ (omega arith) c.bit-valid.ensures (measured_cell _ _ l.cell read (λ e. c.if-held.false (c.count-held.ensures ∙ e))).0)

pub loop-cell-preserved : goal.loop-cell-preserved
loop-cell-preserved c =
    let l = c.loop-cell in
    let read = c.is_read.ensures in
    let held = c.count-held.ensures in
    elim c.if-is_read.branch [
      | then-is_read+then-held w ↦ rw (w.counts-is, w.valid-is, w.unmeasured-is)
          (step_cleared _ _ l.cell _ _ _ (omega arith) l.invariant _ w.bit-unmeasured.ensures (sym read ∙ w.if-is_read.true) (sym held ∙ w.if-held.true))
      | then-is_read+else-held w ↦ rw (w.counts-is, w.valid-is, w.unmeasured-is)
          (step_measured _ _ l.cell _ _ _ (omega arith) l.invariant _ _ w.bit-valid.ensures held (sym read ∙ w.if-is_read.true) (λ e. w.if-held.false (held ∙ e)))
      | else-is_read w ↦ rw (w.counts-is, w.valid-is, w.unmeasured-is)
          (step_unread _ _ l.cell _ _ _ (omega arith) l.invariant (sym read ∙ w.if-is_read.false))
    ]

pub returns : goal.returns
returns c =
    let l = c.loop-cell in
    read _ _ c.if-groups-ne36.false c.if-marks-ne6.false (sym c.any_above.ensures ∙ c.if-any_above.false) l.cell _ _ _ (omega arith) l.invariant
