-- `tally::count_all`: each mark is counted to its sort; the rest are silent, as no mark is above 2. Assumes nothing.
use Rattle.std.proofs.Common.{◌≡◌, ℕ, arith}
use Rattle.host.specs.Marks.{count_of}
use Rattle.host.proofs.Sorts.{count_none, sorts, rest}
use Rattle.tally.specs.Tally.{counted}
use Rattle.tally.proofs.Counting.{count_next}
use Rattle.tally.proofs.count_all.Goals as goal

pub loop-mark-preserved : goal.loop-mark-preserved
loop-mark-preserved c =
    let read = count_next _ _ _ _ c.loop-mark-test.true c.from-read.ensures in
    let wrong = count_next _ _ _ _ c.loop-mark-test.true c.from-wrong.ensures in
    (omega (arith, read.0), omega (arith, read.1), omega (arith, wrong.0), omega (arith, wrong.1))

pub overflow_sub-result-2 : goal.overflow_sub-result-2
overflow_sub-result-2 c =
    omega
    (arith, sorts _ c.requires.1, count_none _ _ 0 c.loop-mark-test.false, count_none _ _ 1 c.loop-mark-test.false)

pub returns : goal.returns
unfolding counted
returns c =
    let none = (λ (sort : ℕ). count_none c.args.reply.now c.loop-mark.mark-index sort c.loop-mark-test.false) in
    let read : c.loop-mark.read ≡ count_of 0 c.args.reply.now = omega (arith, none 0) in
    let wrong : c.loop-mark.wrong ≡ count_of 1 c.args.reply.now = omega (arith, none 1) in
    rw (read, wrong, rest _ c.requires.1)
