-- The state with the pin of one device changed: that pin alone is another, every group is as it was, and the state is judged as it was. Assumes nothing.
use mathlib.Core.Path.{◌≡◌, refl, sym, ap, ap₂, ◌∙◌}
use mathlib.Core.Bool.{Bool, true, false, not, ◌||◌}
use mathlib.Core.Logic.{⊎_elim}
use mathlib.Core.List.{List}
use Prim.Native.Nat.{ℕ, zero, suc, ◌+◌, ◌-◌, ◌≤◌, ◌<◌}
use native.Mathlib.Omega.{arith}
use borrow.Author.Tests.{eqb-true, eqb-false, le-ltb}
use lib.Dec.{eqb, ltb}
use lib.ListN.{length, take, drop, set, length-set}
use lib.Seq.{get_or-set_same, get_or-set_other, take-set-le, drop-set-lt, drop-set-add}
use Rattle.registers.specs.State.{state_length, spot, pin_spot, stored, pin, pin_above}
use Rattle.chain.specs.Pins.{with_pin}
use Rattle.registers.proofs.StateLaws.{pin_room, pin_apart}

places_differ : (k j : ℕ) → (k ≡ j → ⊥) → pin_spot k ≡ pin_spot j → ⊥
unfolding pin_spot
places_differ k j ne e = ne (omega arith)

module _ (j p : ℕ) (state : List ℕ) where
  pub length_with_pin : length (with_pin j p state) ≡ length state
  unfolding with_pin
  length_with_pin = simp length-set

  pub pin_own : (n : ℕ) → j < n → length state ≡ state_length n → pin j (with_pin j p state) ≡ p
  unfolding with_pin pin
  pin_own n h whole = get_or-set_same state (pin_spot j) p 0 (omega (arith, pin_room n j h))

  pub pin_other : (k : ℕ) → (k ≡ j → ⊥) → pin k (with_pin j p state) ≡ pin k state
  unfolding with_pin pin
  pin_other k ne = get_or-set_other state (pin_spot j) (pin_spot k) p 0 (places_differ k j ne)

  pub stored_with_pin : (k h : ℕ) → h < 18 → stored k h (with_pin j p state) ≡ stored k h state
  unfolding with_pin stored
  stored_with_pin k h lh =
      ⊎_elim
      (λ a. ap (take 6) (drop-set-lt (spot k h) state (pin_spot j) p (omega arith)))
      (λ a.
      let past : spot k h + (pin_spot j - spot k h) ≡ pin_spot j = omega arith in
      ap (λ (i : ℕ). take 6 (drop (spot k h) (set state i p))) (sym past)
      ∙ ap (take 6) (drop-set-add (spot k h) state (pin_spot j - spot k h) p)
      ∙ take-set-le 6 (drop (spot k h) state) (pin_spot j - spot k h) p (omega arith))
      (pin_apart j k h 1 (omega arith))

  module _ (old : pin j state ≤ 1) (new : p ≤ 1) (n : ℕ) (hj : j < n) where
    above_alike : length state ≡ state_length n → (k : ℕ) → pin_above k (with_pin j p state) ≡ pin_above k state
    unfolding pin_above
    above_alike whole zero = refl
    above_alike whole (suc k) = ap₂ (λ (a b : Bool). a || b) (above_alike whole k) (by_device (eqb k j) refl)
      where
        by_device : (b : Bool) → eqb k j ≡ b → ltb 1 (pin k (with_pin j p state)) ≡ ltb 1 (pin k state)
        by_device true e =
            let q : k ≡ j = eqb-true k j e in
            ap (λ (i : ℕ). ltb 1 (pin i (with_pin j p state))) q
            ∙ le-ltb 1 (pin j (with_pin j p state)) (omega (arith, pin_own n hj whole))
            ∙ sym (ap (λ (i : ℕ). ltb 1 (pin i state)) q ∙ le-ltb 1 (pin j state) old)
        by_device false e = ap (ltb 1) (pin_other k (eqb-false k j e))

    -- whether it is refused with 3
    pub judged_alike : (not (eqb (length (with_pin j p state)) (state_length n)) || pin_above n (with_pin j p state))
        ≡ (not (eqb (length state) (state_length n)) || pin_above n state)
    judged_alike =
        ap (λ (l : ℕ). not (eqb l (state_length n)) || pin_above n (with_pin j p state)) length_with_pin ∙ by_length (eqb (length state) (state_length n)) refl
      where
        by_length : (b : Bool) → eqb (length state) (state_length n) ≡ b → (not b || pin_above n (with_pin j p state)) ≡ (not b || pin_above n state)
        by_length true e = above_alike (eqb-true (length state) (state_length n) e) n
        by_length false e = refl
