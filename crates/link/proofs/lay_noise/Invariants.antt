-- `link::lay_noise`: the first i bytes are through the noise. Assumes nothing.
use Rattle.std.proofs.Common.{◌≡◌, take}
use Rattle.pec.specs.Noise.{noisy}
use Rattle.link.proofs.lay_noise.Given as goal

abbrev pub invariant-loop-i : goal.invariant-loop-i
invariant-loop-i l = l.part ≡ noisy (take l.i l.mask) l.fn.part
