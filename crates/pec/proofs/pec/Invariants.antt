-- `pec::pec`: r is the remainder of the bytes passed. Assumes nothing.
use Rattle.std.proofs.Common.{take, ◌≡◌, ◌<◌}
use Rattle.pec.specs.Register.{remainder_of}
use Rattle.pec.proofs.pec.Given as goal

abbrev pub invariant-loop-byte : goal.invariant-loop-byte
invariant-loop-byte l = (l.r < 32768) × (l.r ≡ remainder_of (take l.byte-index l.bytes))
