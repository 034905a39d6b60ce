-- 01's numbers of the marks. Assumes nothing.
use Rattle.std.specs.Prelude.{ℕ}
use Rattle.host.specs.Marks.{read_mark, wrong_mark, silent_mark}
use Rattle.host.specs.declared.marks.Mark.{Mark}

unfoldable pub mark_number : Mark → ℕ
mark_number Mark.Read = read_mark
mark_number Mark.Wrong = wrong_mark
mark_number Mark.Silent = silent_mark
