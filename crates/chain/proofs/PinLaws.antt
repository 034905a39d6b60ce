-- No frame changes a pin, nor the DTEN that is stored; and every group but CFGA is as it was before there were pins. Assumes nothing.
use mathlib.Core.Path.{◌≡◌, refl, sym, ap, ◌∙◌, subst}
use mathlib.Core.Bool.{Bool, true, false}
use mathlib.Core.List.{List}
use Prim.Native.Nat.{ℕ}
use borrow.Author.Tests.{eqb-true}
use lib.Dec.{eqb}
use lib.ListN.{length}
use Rattle.lent.specs.Memory.{splice}
use Rattle.lent.proofs.Pick.{pick_true, pick_false}
use Rattle.frames.specs.Commands.{kind_of, group_of}
use Rattle.frames.proofs.Lookup.{group_below}
use Rattle.registers.specs.Dten.{dten}
use Rattle.registers.specs.State.{spot, stored, pin, shown, storing}
use Rattle.registers.specs.Effect.{changed}
use Rattle.chain.specs.Chain.{code_of, chain_state}
use Rattle.chain.specs.Pins.{PinsStay, OthersPlain}
use Rattle.registers.proofs.DtenLaws.{no_dten}
use Rattle.registers.proofs.ClearLaws.{clear_room, clear_high}
use Rattle.registers.proofs.Obeyed.{pin_changed, bit_changed}
use Rattle.chain.proofs.Accepted.{accepted}

pub pins_stay : PinsStay
pins_stay n frame state reply r after answer s k h = by_number (eqb r.number 0) refl
  where
    kind : ℕ
    kind = kind_of (code_of frame)

    g : ℕ
    g = group_of (code_of frame)

    Kept : List ℕ → Type 0
    Kept x = (pin k x ≡ pin k state) × (dten (stored k 0 x) ≡ dten (stored k 0 state))

    by_number : (b : Bool) → eqb r.number 0 ≡ b → Kept after
    by_number true e =
        let A = accepted n frame state (length reply) (sym s.number ∙ eqb-true r.number 0 e) in
        let is : after ≡ changed n kind g frame state = s.registers ∙ (unfold chain_state in pick_true (eqb r.number 0) _ state e) in
        subst Kept (sym is) (
          pin_changed n kind g frame state (group_below (code_of frame)) A.long (clear_room (code_of frame)) A.sound.whole k,
          bit_changed n kind g frame state (group_below (code_of frame)) A.long (clear_room (code_of frame)) A.sound.whole (clear_high (code_of frame)) k h,
        )
    by_number false e =
        let is : after ≡ state = s.registers ∙ (unfold chain_state in pick_false (eqb r.number 0) _ state e) in
        subst Kept (sym is) (refl, refl)

pub others_plain : OthersPlain
unfolding shown storing
others_plain k g new state h = (no_dten g (pin k state) (stored k g state) h, ap (λ (x : List ℕ). splice (spot k g) x state) (no_dten g (dten (stored k g state)) new h))
