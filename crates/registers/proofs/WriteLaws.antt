-- A write: each device by its own group on the wire alone, its registers and its bit of the word; pins and the stored DTEN stay. Assumes nothing.
use mathlib.Core.Path.{◌≡◌, refl, sym, ap, ap₂, ◌∙◌, subst}
use mathlib.Core.Bool.{Bool, true, false}
use mathlib.Core.Logic.{⊎_elim}
use mathlib.Core.List.{List}
use Prim.Native.Nat.{ℕ, zero, suc, ◌+◌, ◌*◌, ◌-◌, ◌%◌, ◌^◌, ◌≤◌, ◌<◌}
use native.Mathlib.Nat.{le_of_suc-le-suc, eq-or-lt_of_le}
use native.Mathlib.Numerals.{add-one}
use native.Mathlib.Omega.{arith}
use borrow.Author.Tests.{eqb-true, eqb-false}
use lib.Dec.{eqb}
use lib.ListN.{length, take, drop, length-take, length-drop}
use lib.Pow.{pow_mono}
use lib.Seq.{length-take-le}
use borrow.Rule.Slice.PartMut.{put_mid}
use Rattle.lent.specs.Bytes.{Bytes}
use Rattle.lent.specs.Refusal.{pick}
use Rattle.lent.proofs.BitsWhere.{bit_more}
use Rattle.lent.proofs.Bytes.{bytes_take, bytes_part, bytes_pick}
use Rattle.lent.proofs.Splice.{put_pick}
use Rattle.pec.specs.Group.{right}
use Rattle.frames.specs.Places.{wire}
use Rattle.registers.specs.Dten.{dten, with_dten}
use Rattle.registers.specs.State.{state_length, spot, stored, pin, shown, storing}
use Rattle.registers.specs.Effect.{written, stored_bits}
use Rattle.registers.proofs.DtenLaws.{length_with_dten, dten_again, dten_pick, dten_small, dten_with}
use Rattle.registers.proofs.StateLaws.{length_storing, stored_own, stored_other, pin_storing, bytes_storing}

pub length_wire : (n k : ℕ) (frame : List ℕ) → k < n → length frame ≡ 4 + 8 * n → length (wire n k frame) ≡ 8
unfolding wire
length_wire n k frame h l = simp (length-take, length-drop) (omega arith)

length_new : (n k : ℕ) (frame : List ℕ) → k < n → length frame ≡ 4 + 8 * n → length (take 6 (wire n k frame)) ≡ 6
length_new n k frame h l = length-take-le 6 (wire n k frame) (omega (arith, length_wire n k frame h l))

-- ONE TURN OF THE LOOP: the registers, and the word
pub turn : (n k g at from : ℕ) (frame state now after : List ℕ) → k < n → length frame ≡ 4 + 8 * n → at ≡ spot k g → from ≡ 4 + 8 * (n - 1 - k)
    → now ≡ written n k g frame state
    → after
    ≡ pick (right (take (from + 8 - from) (drop from frame)))
    (with_dten g (dten (take (at + 6 - at) (drop at now))) (take 6 (take (from + 8 - from) (drop from frame)))) (take (at + 6 - at) (drop at now))
    → put_mid at (at + 6 - at) now after ≡ written n (k + 1) g frame state
unfolding wire stored storing written
turn n k g at from frame state now after h lf ea ef en e =
    let size : from + 8 - from ≡ 8 = omega arith in
    let part : at + 6 - at ≡ 6 = omega arith in
    let new : List ℕ = with_dten g (dten (take 6 (drop at now))) (take 6 (wire n k frame)) in
    let six : length new ≡ 6 = length_with_dten g (dten (take 6 (drop at now))) (take 6 (wire n k frame)) ∙ length_new n k frame h lf in
    put_pick (right (wire n k frame)) at (at + 6) after now new (omega arith) (e ∙ rw (size, ef, part))
    ∙ rw (add-one, ea, en)

pub turn_word : (n k from word bit r : ℕ) (frame : List ℕ) → from ≡ 4 + 8 * (n - 1 - k) → bit ≡ 2 ^ k → word ≡ stored_bits n k frame
    → r ≡ pick (right (take (from + 8 - from) (drop from frame))) bit 0 → word + r ≡ stored_bits n (k + 1) frame
unfolding wire stored_bits
turn_word n k from word bit r frame ef eb ew er = let size : from + 8 - from ≡ 8 = omega arith in bit_more (λ (j : ℕ). right (wire n j frame)) k word ew r (er ∙ rw (size, ef, eb))

pub bit_small : (n k : ℕ) → k < n → n ≤ 16 → 2 ^ k ≤ 32768
bit_small n k h l = pow_mono {i = k} {j = 15} (omega arith)

-- the bit that the code shifts to its place
pub bit_shifted : (n k : ℕ) → k < n → n ≤ 16 → 1 * 2 ^ k % 65536 ≡ 2 ^ k
bit_shifted n k h l = omega (arith, bit_small n k h l)

pub pow_most : (n : ℕ) → n ≤ 16 → 2 ^ n ≤ 65536
pow_most n h = pow_mono {i = n} {j = 16} h

-- THE REGISTERS
module _ (n g : ℕ) (frame state : List ℕ) (hg : g < 18) (lf : length frame ≡ 4 + 8 * n) (whole : length state ≡ state_length n) where
  pub length_written : (j : ℕ) → j ≤ n → length (written n j g frame state) ≡ state_length n
  unfolding written
  length_written zero h = whole
  length_written (suc j) h = go (right (wire n j frame)) (written n j g frame state) (length_written j (omega arith))
    where
      go : (b : Bool) (now : List ℕ) → length now ≡ state_length n → length (pick b (storing j g (take 6 (wire n j frame)) now) now) ≡ state_length n
      go true now e = unfold pick in length_storing n j g (take 6 (wire n j frame)) now (length_new n j frame h lf) h hg e ∙ e
      go false now e = unfold pick in e

  -- every other group, and the devices not yet reached, stay
  pub written_other : (j k h : ℕ) → j ≤ n → h < 18 → (k < j → h ≡ g → ⊥) → stored k h (written n j g frame state) ≡ stored k h state
  unfolding written
  written_other zero k h l lh ne = refl
  written_other (suc j) k h l lh ne =
      go (right (wire n j frame)) (written n j g frame state) (length_written j (omega arith)) ∙ written_other j k h (omega arith) lh (λ a e. ne (omega arith) e)
    where
      go : (b : Bool) (now : List ℕ) → length now ≡ state_length n → stored k h (pick b (storing j g (take 6 (wire n j frame)) now) now) ≡ stored k h now
      go true now e = unfold pick in
          stored_other n j g (take 6 (wire n j frame)) now (length_new n j frame l lf) l hg e k h lh (λ a b. ne (omega arith) b)
      go false now e = unfold pick in refl

  -- device k + 1's own group, by its own group on the wire
  pub written_own : (j k : ℕ) → j ≤ n → k < j → stored k g (written n j g frame state) ≡ pick (right (wire n k frame)) (with_dten g (dten (stored k g state)) (take 6 (wire n k frame))) (stored k g state)
  unfolding written
  written_own zero k l h = absurd (omega arith)
  written_own (suc j) k l h =
      ⊎_elim
      (λ e. subst (λ (i : ℕ). stored i g (written n (suc j) g frame state) ≡ pick (right (wire n i frame)) (with_dten g (dten (stored i g state)) (take 6 (wire n i frame))) (stored i g state)) (sym e)
      (here (right (wire n j frame)) (written n j g frame state) (length_written j (omega arith)) (written_other j j g (omega arith) hg (λ a b. absurd (omega arith)))))
      (λ a. before (right (wire n j frame)) (written n j g frame state) (length_written j (omega arith)) a ∙ written_own j k (omega arith) a)
      (eq-or-lt_of_le (le_of_suc-le-suc h))
    where
      here : (b : Bool) (now : List ℕ) → length now ≡ state_length n → stored j g now ≡ stored j g state
          → stored j g (pick b (storing j g (take 6 (wire n j frame)) now) now) ≡ pick b (with_dten g (dten (stored j g state)) (take 6 (wire n j frame))) (stored j g state)
      here true now e kept = unfold pick in
          (stored_own n j g (take 6 (wire n j frame)) now (length_new n j frame l lf) l hg e ∙ ap (λ (x : List ℕ). with_dten g (dten x) (take 6 (wire n j frame))) kept)
      here false now e kept = unfold pick in kept

      before : (b : Bool) (now : List ℕ) → length now ≡ state_length n → k < j → stored k g (pick b (storing j g (take 6 (wire n j frame)) now) now) ≡ stored k g now
      before true now e a = unfold pick in
          stored_other n j g (take 6 (wire n j frame)) now (length_new n j frame l lf) l hg e k g hg (λ x y. absurd (omega arith))
      before false now e a = unfold pick in refl

  pub written_pin : (j k : ℕ) → j ≤ n → pin k (written n j g frame state) ≡ pin k state
  unfolding written
  written_pin zero k l = refl
  written_pin (suc j) k l = go (right (wire n j frame)) (written n j g frame state) (length_written j (omega arith)) ∙ written_pin j k (omega arith)
    where
      go : (b : Bool) (now : List ℕ) → length now ≡ state_length n → pin k (pick b (storing j g (take 6 (wire n j frame)) now) now) ≡ pin k now
      go true now e = unfold pick in pin_storing n j g (take 6 (wire n j frame)) now (length_new n j frame l lf) l hg e k
      go false now e = unfold pick in refl

  -- what a read then shows of it: the new bytes through the pin, or what it showed before
  pub written_shown : (k : ℕ) → k < n → shown k g (written n n g frame state) ≡ pick (right (wire n k frame)) (with_dten g (pin k state) (take 6 (wire n k frame))) (shown k g state)
  unfolding shown
  written_shown k h =
      ap₂ (with_dten g) (written_pin n k (omega arith)) (written_own n k (omega arith) h)
      ∙ dten_pick g (right (wire n k frame)) (pin k state) (with_dten g (dten (stored k g state)) (take 6 (wire n k frame))) (stored k g state)
      ∙ ap (λ (x : List ℕ). pick (right (wire n k frame)) x (shown k g state)) (dten_again g (pin k state) (dten (stored k g state)) (take 6 (wire n k frame)) (dten_small (stored k g state)))

  -- the stored DTEN, whichever group is written
  pub written_bit : (k : ℕ) → k < n → dten (stored k 0 (written n n g frame state)) ≡ dten (stored k 0 state)
  written_bit k h = by_group (eqb 0 g) refl
    where
      kept : (b : Bool) → dten (pick b (with_dten 0 (dten (stored k 0 state)) (take 6 (wire n k frame))) (stored k 0 state)) ≡ dten (stored k 0 state)
      kept true = unfold pick in dten_with (dten (stored k 0 state)) (take 6 (wire n k frame)) (dten_small (stored k 0 state)) (omega (arith, length_new n k frame h lf))
      kept false = unfold pick in refl

      by_group : (b : Bool) → eqb 0 g ≡ b → dten (stored k 0 (written n n g frame state)) ≡ dten (stored k 0 state)
      by_group true e =
          let q : 0 ≡ g = eqb-true 0 g e in
          ap dten
          (subst
          (λ (i : ℕ). stored k i (written n n g frame state) ≡ pick (right (wire n k frame)) (with_dten i (dten (stored k i state)) (take 6 (wire n k frame))) (stored k i state))
          (sym q) (written_own n k (omega arith) h))
          ∙ kept (right (wire n k frame))
      by_group false e = ap dten (written_other n k 0 (omega arith) (omega arith) (λ a q. eqb-false 0 g e q))

pub bytes_written : (n g : ℕ) (frame state : List ℕ) → Bytes frame → Bytes state → (j : ℕ) → Bytes (written n j g frame state)
unfolding written wire
bytes_written n g frame state bf bs zero = bs
bytes_written n g frame state bf bs (suc j) =
    let now = bytes_written n g frame state bf bs j in
    let new = bytes_take 6 (wire n j frame) (bytes_part 8 (4 + 8 * (n - 1 - j)) frame bf) in
    bytes_pick (right (wire n j frame)) (storing j g (take 6 (wire n j frame)) (written n j g frame state)) (written n j g frame state)
    (bytes_storing j g (take 6 (wire n j frame)) (written n j g frame state) new now) now
