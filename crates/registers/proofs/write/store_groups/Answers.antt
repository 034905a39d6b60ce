-- `registers::write::store_groups`: each device by its own group. Assumes nothing.
use Rattle.std.proofs.Common.{ℕ, ◌+◌, ◌-◌, ◌*◌, refl, ◌∙◌, arith}
use borrow.Rule.Slice.PartMut.{same_len_mid}
use Rattle.lent.specs.Word.{bits_where}
use Rattle.lent.proofs.Over.{over_none}
use Rattle.lent.proofs.BitsWhere.{bit_or_none, bits_below}
use Rattle.pec.specs.Group.{right}
use Rattle.frames.specs.Places.{wire}
use Rattle.registers.specs.Effect.{silence, written, stored_bits}
use Rattle.registers.proofs.Silence as Silence
use Rattle.registers.proofs.WriteLaws.{turn, turn_word, bit_small, bit_shifted}
use Rattle.registers.proofs.write.store_groups.Goals as goal

pub loop-k-init : goal.loop-k-init
unfolding written stored_bits bits_where silence
loop-k-init c = (refl, refl, refl, refl, over_none _)

pub overflow_add-word : goal.overflow_add-word
unfolding stored_bits
overflow_add-word c =
    let a = c.args in
    let l = c.loop-k in
    omega (
      arith,
      bit_small a.n.count l.k (omega arith) (omega arith),
      bits_below (λ (j : ℕ). right (wire a.n.count j a.frame.now)) l.k,
      bit_or_none _ _ _ c.take_group-word.ensures.0,
    )

pub loop-k-preserved : goal.loop-k-preserved
loop-k-preserved c =
    let a = c.args in
    let n = a.n.count in
    let l = c.loop-k in
    let t = c.take_group-word in
    let at = c.spot-at.result in
    let from = 4 + 8 * (n - 1 - l.k) in
    let quiet = Silence.turn n l.k a.part.now l.part t.new.part (omega arith) c.requires.3 l.invariant.4 t.ensures.2 in (
      turn_word n l.k from l.word _ t.result a.frame.now refl (bit_shifted n l.k (omega arith) (omega arith)) l.invariant.0 t.ensures.0,
      same_len_mid at (at + 6 - at) l.state t.new.registers t.auto.registers ∙ l.invariant.1,
      turn n l.k a.group at from a.frame.now a.state.now l.state t.new.registers (omega arith) c.requires.1 c.spot-at.ensures refl l.invariant.2 t.ensures.1,
      quiet.0,
      quiet.1,
    )
