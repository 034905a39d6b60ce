-- `link::lay_noise` flips what the mask has. Assumes nothing.
use Rattle.std.proofs.Common.{List, ℕ, get_or, set, refl, ap, ◌∙◌, add-one, arith}
use lib.Bits.{bit_xor}
use Rattle.pec.specs.Noise.{noisy}
use Rattle.pec.proofs.Mask.{noisy_more, noisy_all}
use Rattle.link.proofs.lay_noise.Goals as goal

pub loop-i-init : goal.loop-i-init
unfolding noisy
loop-i-init c = refl

pub loop-i-preserved : goal.loop-i-preserved
loop-i-preserved c =
    let a = c.args in
    let l = c.loop-i in
    ap (λ (x : List ℕ). set x l.i (bit_xor (get_or x l.i 0) (get_or a.mask.now l.i 0))) l.invariant
    ∙ noisy_more a.mask.now a.part.now l.i (omega arith) (omega arith)
    ∙ rw add-one

pub returns : goal.returns
returns c = c.loop-i.invariant ∙ noisy_all c.args.mask.now c.args.part.now c.loop-i.i (omega arith)
