-- `tally::count_all`. The loop's invariant: of each sort, what is counted, with the count of the marks left, is the count of all. Assumes nothing.
use Rattle.std.proofs.Common.{◌+◌, ◌≡◌, ◌≤◌, drop}
use Rattle.host.specs.Marks.{count_of}
use Rattle.tally.proofs.count_all.Given as goal

abbrev pub invariant-loop-mark : goal.invariant-loop-mark
invariant-loop-mark l =
    (l.read ≤ l.mark-index)
    × (l.read + count_of 0 (drop l.mark-index l.reply) ≡ count_of 0 l.reply)
    × (l.wrong ≤ l.mark-index)
    × (l.wrong + count_of 1 (drop l.mark-index l.reply) ≡ count_of 1 l.reply)
