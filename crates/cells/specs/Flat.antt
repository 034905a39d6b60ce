-- What is given as C has it: a number, and the values, all 0 on refusal. Assumes nothing.
use Rattle.std.specs.Prelude.{Result, Ok, Err, replicate}
use Rattle.lent.specs.Number.{number}
use Rattle.lent.specs.declared.refusal.Refusal.{Refusal}
use Rattle.cells.specs.declared.Cells.{Cells}
use Rattle.cells.specs.declared.Readings.{Readings}

unfoldable pub readings : Result Cells Refusal → Readings
readings (Ok cells) = record { number = 0; counts = cells.counts; valid = cells.valid; unmeasured = cells.unmeasured }
readings (Err refusal) = record { number = number refusal; counts = replicate 18 0; valid = 0; unmeasured = 0 }
