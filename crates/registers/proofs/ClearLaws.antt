-- A clear: its groups become 0xFF on every device, every other group and every pin stay. Assumes nothing.
use mathlib.Core.Path.{◌≡◌, refl, ap, ◌∙◌}
use mathlib.Core.Bool.{Bool, true, false, not, ◌||◌}
use mathlib.Core.Logic.{◌⊎◌, ⊎_elim}
use mathlib.Core.List.{List, ◌++◌}
use Prim.Native.Nat.{ℕ, zero, suc, ◌+◌, ◌*◌, ◌-◌, ◌≤◌, ◌<◌}
use native.Mathlib.Nat.{le_of_suc-le-suc, eq-or-lt_of_le}
use native.Mathlib.Numerals.{add-one}
use native.Mathlib.Omega.{arith}
use borrow.Author.Tests.{leb-true}
use borrow.Rule.Slice.PartMut.{put_mid}
use lib.Dec.{eqb, leb, lit<}
use lib.ListN.{length, take, drop, replicate}
use lib.Seq.{take_all}
use Rattle.lent.specs.Bytes.{Bytes}
use Rattle.lent.specs.Memory.{over, splice}
use Rattle.lent.specs.Refusal.{pick}
use Rattle.lent.proofs.Bytes.{bytes_splice, bytes_replicate}
use Rattle.lent.proofs.Over.{over_full, filled}
use Rattle.lent.proofs.Splice.{length_splice, splice_put, splice_before, splice_after, splice_inside}
use Rattle.frames.specs.Commands.{Row, rows, kind_of, group_of}
use Rattle.frames.proofs.Lookup.{looked_up}
use Rattle.registers.specs.State.{state_length, spot, stored, pin, shown}
use Rattle.registers.specs.Effect.{silence, clear_count, cleared}
use Rattle.registers.proofs.DtenLaws.{no_dten}
use Rattle.registers.proofs.StateLaws.{within, apart, shown_alike, pin_splice}
use Rattle.registers.proofs.Silence.{length_silence, part_silence}

-- the groups of a clear are of the eighteen: one computed test over the table's rows
roomy : Row → Bool
roomy r = not (eqb r.kind 3) || leb (r.group + clear_count r.group) 18

pub clear_room : (code : ℕ) → kind_of code ≡ 3 → group_of code + clear_count (group_of code) ≤ 18
unfolding roomy clear_count pick rows kind_of group_of
clear_room code e =
    let t : (not (eqb (kind_of code) 3) || leb (group_of code + clear_count (group_of code)) 18) ≡ true = looked_up roomy code refl refl refl in
    leb-true (group_of code + clear_count (group_of code)) 18 (rw e at t)

-- and CFGA is none of them
high : Row → Bool
high r = not (eqb r.kind 3) || leb 1 r.group

pub clear_high : (code : ℕ) → kind_of code ≡ 3 → 1 ≤ group_of code
unfolding high rows kind_of group_of
clear_high code e =
    let t : (not (eqb (kind_of code) 3) || leb 1 (group_of code)) ≡ true = looked_up high code refl refl refl in
    leb-true 1 (group_of code) (rw e at t)

pub clears_some : (g : ℕ) → 0 < clear_count g
unfolding clear_count
clears_some g = some (eqb g 2)
  where
    some : (b : Bool) → 0 < pick b 6 4
    some true = unfold pick in lit< tt
    some false = unfold pick in lit< tt

-- a part that is filled whole
pub filled_whole : (n : ℕ) (old after : List ℕ) → length old ≡ n → length after ≡ length (take (n - 0) old) → after ≡ replicate (length (take (n - 0) old)) 255
    → put_mid 0 (n - 0) old after ≡ replicate (length old) 255
unfolding splice over
filled_whole n old after e l f =
    let all : take (n - 0) old ≡ old = take_all (n - 0) old (omega arith) in
    let start : 0 + length after ≡ length after = omega arith in
    splice_put 0 n after old (omega (arith, l, ap length all))
    ∙ ap (λ (i : ℕ). after ++ drop i old) start
    ∙ over_full after old (omega (arith, l, ap length all))
    ∙ f
    ∙ ap (λ (x : List ℕ). replicate (length x) 255) all

-- one turn of the loop
pub turn : (k g count many at : ℕ) (state now after : List ℕ) → many ≡ count → at ≡ spot k g → now ≡ cleared k g count state → length after ≡ 6 * many
    → after ≡ replicate (length (take (at + 6 * many - at) (drop at now))) 255
    → put_mid at (at + 6 * many - at) now after ≡ cleared (k + 1) g count state
unfolding cleared silence
turn k g count many at state now after em ea en la e =
    splice_put at (at + 6 * many) after now (omega arith)
    ∙ ap (λ (l : List ℕ). splice at l now) (filled after 255 (length (take (at + 6 * many - at) (drop at now))) (6 * many) e la)
    ∙ rw (add-one, em, ea, en)

module _ (n g count : ℕ) (state : List ℕ) (room : g + count ≤ 18) (whole : length state ≡ state_length n) where
  pub length_cleared : (j : ℕ) → j ≤ n → length (cleared j g count state) ≡ state_length n
  unfolding cleared
  length_cleared zero h = whole
  length_cleared (suc j) h =
      let e = length_cleared j (omega arith) in
      length_splice (spot j g) (silence (6 * count)) (cleared j g count state) (omega (arith, within n j g count h room, length_silence (6 * count))) ∙ e

  -- one device more: a group apart from those that it clears stays
  one_more : (j k h : ℕ) → j < n → h < 18 → (k ≡ j → (h < g) ⊎ (g + count ≤ h)) → stored k h (cleared (suc j) g count state) ≡ stored k h (cleared j g count state)
  unfolding cleared stored
  one_more j k h l lh ne =
      let e = length_cleared j (omega arith) in
      let w = within n j g count l room in
      let s = length_silence (6 * count) in
      ⊎_elim
      (λ a. splice_before (spot k h) 6 (spot j g) (silence (6 * count)) (cleared j g count state) a (omega arith))
      (λ a. splice_after (spot k h) 6 (spot j g) (silence (6 * count)) (cleared j g count state) (omega arith) (omega arith))
      (apart k h j g count lh room ne)

  pub cleared_other : (j k h : ℕ) → j ≤ n → h < 18 → (k < j → (h < g) ⊎ (g + count ≤ h)) → stored k h (cleared j g count state) ≡ stored k h state
  unfolding cleared
  cleared_other zero k h l lh ne = refl
  cleared_other (suc j) k h l lh ne = one_more j k h l lh (λ e. ne (omega arith)) ∙ cleared_other j k h (omega arith) lh (λ a. ne (omega arith))

  pub cleared_own : (j k h : ℕ) → j ≤ n → k < j → g ≤ h → h < g + count → stored k h (cleared j g count state) ≡ silence 6
  unfolding cleared
  cleared_own zero k h l lk a b = absurd (omega arith)
  cleared_own (suc j) k h l lk a b =
      ⊎_elim (λ e. here e) (λ c. one_more j k h l (omega arith) (λ e. absurd (omega arith)) ∙ cleared_own j k h (omega arith) c a b) (eq-or-lt_of_le (le_of_suc-le-suc lk))
    where
      place : k ≡ j → spot k h ≡ spot j g + 6 * (h - g)
      place e = unfold spot in omega arith

      here : k ≡ j → stored k h (splice (spot j g) (silence (6 * count)) (cleared j g count state)) ≡ silence 6
      here e = unfold stored in
          (ap (λ (i : ℕ). take 6 (drop i (splice (spot j g) (silence (6 * count)) (cleared j g count state)))) (place e)
          ∙ splice_inside (spot j g) (6 * (h - g)) 6 (silence (6 * count)) (cleared j g count state) (omega (arith, length_silence (6 * count)))
          (omega (arith, length_silence (6 * count), within n j g count l room, length_cleared j (omega arith)))
          ∙ part_silence (6 * (h - g)) 6 (6 * count) (omega arith))

  pub cleared_pin : (j k : ℕ) → j ≤ n → pin k (cleared j g count state) ≡ pin k state
  unfolding cleared
  cleared_pin zero k l = refl
  cleared_pin (suc j) k l =
      pin_splice n k j g count (silence (6 * count)) (cleared j g count state) (length_silence (6 * count)) l room (length_cleared j (omega arith)) ∙ cleared_pin j k (omega arith)

  -- what a read then shows
  pub shown_other : (k h : ℕ) → h < 18 → ((h < g) ⊎ (g + count ≤ h)) → shown k h (cleared n g count state) ≡ shown k h state
  shown_other k h lh ne =
      shown_alike k h (cleared n g count state) state (cleared_other n k h (omega arith) lh (λ a. ne)) (cleared_pin n k (omega arith))

  pub shown_own : 1 ≤ g → (k h : ℕ) → k < n → g ≤ h → h < g + count → shown k h (cleared n g count state) ≡ silence 6
  unfolding shown
  shown_own high k h l a b = no_dten h (pin k (cleared n g count state)) (stored k h (cleared n g count state)) (λ e. omega arith) ∙ cleared_own n k h (omega arith) l a b

pub bytes_cleared : (g count : ℕ) (state : List ℕ) → Bytes state → (j : ℕ) → Bytes (cleared j g count state)
unfolding cleared silence
bytes_cleared g count state b zero = b
bytes_cleared g count state b (suc j) =
    bytes_splice (spot j g) (replicate (6 * count) 255) (cleared j g count state) (bytes_replicate (6 * count) 255 (omega arith)) (bytes_cleared g count state b j)
