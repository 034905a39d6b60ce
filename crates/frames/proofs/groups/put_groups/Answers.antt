-- `frames::groups::put_groups` lays the write groups, device n's first. Assumes nothing.
use Rattle.std.proofs.Common.{ℕ, ◌*◌, ◌-◌, refl, ap, ◌∙◌, arith}
use Rattle.lent.proofs.Over.{upto_none, upto_full}
use Rattle.frames.specs.Frame.{write_groups}
use Rattle.frames.proofs.GroupLaws.{length_write_groups, turn}
use Rattle.frames.proofs.groups.put_groups.Goals as goal

pub loop-k-init : goal.loop-k-init
loop-k-init c =
    let n = c.args.n.count in
    (refl, upto_none _ _, ap (λ (k : ℕ). write_groups k c.args.bytes.now) {x = n} {y = n - 0} (omega arith))

pub loop-k-preserved : goal.loop-k-preserved
loop-k-preserved c =
    let l = c.loop-k in
    let a = c.args in
    turn a.n.count l.k a.bytes.now a.part.now l.part c.put_group.new.part c.loop-k-test.true c.requires.0 (omega arith) l.invariant.1 l.invariant.2 c.put_group.ensures

pub returns : goal.returns
returns c =
    let l = c.loop-k in
    let a = c.args in
    l.invariant.1
    ∙ upto_full (write_groups a.n.count a.bytes.now) a.part.now (8 * l.k) (omega (arith, length_write_groups a.n.count a.bytes.now (omega arith))) (omega arith)
