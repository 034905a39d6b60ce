-- What a number 0 tells: every test of the refusals was passed. Assumes nothing.
use mathlib.Core.Path.{◌≡◌}
use mathlib.Core.Bool.{true, false, not, ◌||◌}
use mathlib.Core.List.{List}
use Prim.Native.Nat.{ℕ, ◌≤◌}
use borrow.Author.Tests.{eqb-true, eqb-false, ltb-false, not-false}
use lib.Dec.{eqb, ltb}
use lib.ListN.{length, take}
use Rattle.lent.proofs.First.{none_first}
use Rattle.lent.proofs.Tests.{or_left, or_right}
use Rattle.pec.specs.Group.{right}
use Rattle.frames.specs.Size.{outside}
use Rattle.frames.specs.Kind.{frame_length}
use Rattle.frames.specs.Commands.{kind_of}
use Rattle.registers.specs.State.{state_length, pin_above, Sound}
use Rattle.chain.specs.Chain.{code_of, chain_number}
use Rattle.registers.proofs.StateLaws.{above_none}

pub record Accepted (n : ℕ) (frame state : List ℕ) (r : ℕ) : Type 0 where
  pub size : outside n ≡ false
  pub sound : Sound n state
  pub room : length frame ≤ r
  pub right : right (take 4 frame) ≡ true
  pub known : kind_of (code_of frame) ≡ 0 → ⊥
  pub long : length frame ≡ frame_length n (kind_of (code_of frame))

pub accepted : (n : ℕ) (frame state : List ℕ) (r : ℕ) → chain_number n frame state r ≡ 0 → Accepted n frame state r
unfolding chain_number
accepted n frame state r e =
    let kind = kind_of (code_of frame) in
    let t1 = none_first (outside n) 0 _ e in
    let long = eqb (length state) (state_length n) in
    let t3 = none_first (not long || pin_above n state) 2 _ t1.1 in
    let t5 = none_first (ltb r (length frame)) 4 _ t3.1 in
    let t6 = none_first (ltb (length frame) 4) 5 _ t5.1 in
    let t4 = none_first (not (right (take 4 frame))) 3 _ t6.1 in
    let t2 = none_first (eqb kind 0) 1 _ t4.1 in
    let t6' = none_first (not (eqb (length frame) (frame_length n kind))) 5 _ t2.1 in
    record {
      size = t1.0;
      sound = record {
        whole = eqb-true (length state) (state_length n) (not-false long (or_left (not long) (pin_above n state) t3.0));
        pins = above_none n state (or_right (not long) (pin_above n state) t3.0);
      };
      room = ltb-false r (length frame) t5.0;
      right = not-false (right (take 4 frame)) t4.0;
      known = eqb-false kind 0 t2.0;
      long = eqb-true (length frame) (frame_length n kind) (not-false (eqb (length frame) (frame_length n kind)) t6'.0);
    }
