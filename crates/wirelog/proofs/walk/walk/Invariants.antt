-- `wirelog::walk::walk` meets its record: a turn passes one record, and the place grows. Assumes nothing.
use Rattle.std.proofs.Common.{◌-◌, length}
use Rattle.wirelog.proofs.WalkLaws.{Here}
use Rattle.wirelog.proofs.walk.walk.Given as goal

abbrev pub invariant-loop-kind : goal.invariant-loop-kind
invariant-loop-kind l = Here l.log l.walked

abbrev pub decreases-loop-kind : goal.decreases-loop-kind
decreases-loop-kind l = length l.log - l.walked.at
