-- The state: groups and pins lie within it and apart from each other; what is stored reads back, but for DTEN, and every other group and every pin stay; a
-- state is sound where no test refuses it. Assumes nothing.
use mathlib.Core.Path.{◌≡◌, refl, sym, ap, ap₂, ◌∙◌, subst}
use mathlib.Core.Bool.{Bool, true, false, ◌||◌}
use mathlib.Core.Logic.{◌⊎◌, inl, inr, ⊎_elim}
use mathlib.Core.List.{List}
use Prim.Native.Nat.{ℕ, zero, suc, ◌+◌, ◌*◌, ◌/◌, ◌%◌, ◌≤◌, ◌<◌}
use native.Mathlib.Numerals.{add-one}
use native.Mathlib.Omega.{arith}
use native.Mathlib.Nat.{le_of_suc-le-suc, eq-or-lt_of_le}
use borrow.Author.Tests.{eqb-true, eqb-false, ltb-false, le-ltb}
use lib.Dec.{eqb, ltb}
use lib.ListN.{length, get_or, take, drop, length-take, length-drop}
use lib.Seq.{get_or-take, get_or-drop, ext_get_or}
use Rattle.lent.specs.Bytes.{Bytes}
use Rattle.lent.specs.Memory.{splice}
use Rattle.lent.proofs.Bytes.{bytes_part, bytes_splice}
use Rattle.lent.proofs.Splice.{length_splice, splice_same, splice_before, splice_after}
use Rattle.lent.proofs.Tests.{lt_or_le, or_left, or_right}
use Rattle.registers.specs.Dten.{dten, with_dten}
use Rattle.registers.specs.State.{state_length, spot, pin_spot, stored, pin, shown, storing, pin_above, Sound}
use Rattle.registers.proofs.DtenLaws.{length_with_dten, bytes_with_dten, dten_again, dten_own, dten_small, no_dten}

-- `count` groups from g on lie within the state
pub within : (n k g count : ℕ) → k < n → g + count ≤ 18 → spot k g + 6 * count ≤ state_length n
unfolding spot state_length
within n k g count h l = omega arith

-- the same of a place that the code has worked out
pub room_at : (n k g count at : ℕ) → at ≡ spot k g → k < n → g + count ≤ 18 → at + 6 * count ≤ state_length n
room_at n k g count at e h l = omega (arith, within n k g count h l)

pub length_stored : (n k g : ℕ) (state : List ℕ) → k < n → g < 18 → length state ≡ state_length n → length (stored k g state) ≡ 6
unfolding stored
length_stored n k g state h l e = let w = within n k g 1 h (omega arith) in simp (length-take, length-drop) (omega arith)

pub bytes_stored : (k g : ℕ) (state : List ℕ) → Bytes state → Bytes (stored k g state)
unfolding stored
bytes_stored k g state h = bytes_part 6 (spot k g) state h

pub length_shown : (n k g : ℕ) (state : List ℕ) → k < n → g < 18 → length state ≡ state_length n → length (shown k g state) ≡ 6
unfolding shown
length_shown n k g state h l e = length_with_dten g (pin k state) (stored k g state) ∙ length_stored n k g state h l e

pub bytes_shown : (k g : ℕ) (state : List ℕ) → pin k state ≤ 1 → Bytes state → Bytes (shown k g state)
unfolding shown
bytes_shown k g state l h = bytes_with_dten g (pin k state) (stored k g state) l (bytes_stored k g state h)

-- groups of the same device lie apart, and so do those of two devices
pub apart : (k h j g count : ℕ) → h < 18 → g + count ≤ 18 → (k ≡ j → (h < g) ⊎ (g + count ≤ h)) → (spot k h + 6 ≤ spot j g) ⊎ (spot j g + 6 * count ≤ spot k h)
unfolding spot
apart k h j g count lh lg ne =
    ⊎_elim (λ a. inl (omega arith))
    (λ a. ⊎_elim (λ e. ⊎_elim (λ b. inl (omega arith)) (λ b. inr (omega arith)) (ne (omega arith))) (λ b. inr (omega arith)) (eq-or-lt_of_le a))
    (lt_or_le k j)

-- what is shown goes by what is stored and by the pin; and what is stored, by what is shown and by the stored DTEN
pub shown_alike : (k h : ℕ) (x y : List ℕ) → stored k h x ≡ stored k h y → pin k x ≡ pin k y → shown k h x ≡ shown k h y
unfolding shown
shown_alike k h x y s p = ap₂ (with_dten h) p s

pub stored_alike : (k h : ℕ) (x y : List ℕ) → pin k x ≤ 1 → pin k y ≤ 1 → shown k h x ≡ shown k h y → dten (stored k 0 x) ≡ dten (stored k 0 y) → stored k h x ≡ stored k h y
stored_alike k h x y lx ly s d = by_group (eqb h 0) refl
  where
    back : (z : List ℕ) → pin k z ≤ 1 → stored k 0 z ≡ with_dten 0 (dten (stored k 0 z)) (shown k 0 z)
    back z l = unfold shown in sym (dten_again 0 (dten (stored k 0 z)) (pin k z) (stored k 0 z) l ∙ dten_own 0 (stored k 0 z))

    by_group : (b : Bool) → eqb h 0 ≡ b → stored k h x ≡ stored k h y
    by_group true e =
        let q : 0 ≡ h = sym (eqb-true h 0 e) in
        let s0 : shown k 0 x ≡ shown k 0 y = subst (λ (i : ℕ). shown k i x ≡ shown k i y) (sym q) s in
        subst (λ (i : ℕ). stored k i x ≡ stored k i y) q (back x lx ∙ ap₂ (with_dten 0) d s0 ∙ sym (back y ly))
    by_group false e = unfold shown in (sym (no_dten h (pin k x) (stored k h x) (eqb-false h 0 e)) ∙ s ∙ no_dten h (pin k y) (stored k h y) (eqb-false h 0 e))

-- two states that agree in every group and every pin are equal
byte_stored : (k h b : ℕ) (state : List ℕ) → b < 6 → get_or state (spot k h + b) 0 ≡ get_or (stored k h state) b 0
unfolding stored
byte_stored k h b state l = sym (get_or-take 6 (drop (spot k h) state) b 0 l ∙ get_or-drop (spot k h) state b 0)

pub state_ext : (n : ℕ) (x y : List ℕ) → length x ≡ state_length n → length y ≡ state_length n
    → ((k h : ℕ) → k < n → h < 18 → stored k h x ≡ stored k h y) → ((k : ℕ) → k < n → pin k x ≡ pin k y) → x ≡ y
state_ext n x y lx ly groups pins = ext_get_or 0 x y (lx ∙ sym ly) (λ i h. ⊎_elim (λ l. in_group i h l) (λ l. its_pin i h l) (lt_or_le (i % 109) 108))
  where
    device : (i : ℕ) → i < length x → i / 109 < n
    device i h = unfold state_length in omega arith

    in_group : (i : ℕ) → i < length x → i % 109 < 108 → get_or x i 0 ≡ get_or y i 0
    in_group i h l =
        let k : ℕ = i / 109 in
        let g : ℕ = i % 109 / 6 in
        let b : ℕ = i % 109 % 6 in
        let place : spot k g + b ≡ i = unfold spot in omega arith in
        ap (λ (j : ℕ). get_or x j 0) (sym place)
        ∙ byte_stored k g b x (omega arith)
        ∙ ap (λ (z : List ℕ). get_or z b 0) (groups k g (device i h) (omega arith))
        ∙ sym (byte_stored k g b y (omega arith))
        ∙ ap (λ (j : ℕ). get_or y j 0) place

    its_pin : (i : ℕ) → i < length x → 108 ≤ i % 109 → get_or x i 0 ≡ get_or y i 0
    its_pin i h l =
        let place : pin_spot (i / 109) ≡ i = unfold pin_spot in omega arith in
        let same : get_or x (pin_spot (i / 109)) 0 ≡ get_or y (pin_spot (i / 109)) 0 = unfold pin in pins (i / 109) (device i h) in
        ap (λ (j : ℕ). get_or x j 0) (sym place) ∙ same ∙ ap (λ (j : ℕ). get_or y j 0) place

-- PINS: each has a place of its own, within the state and outside of every group
pub pin_room : (n k : ℕ) → k < n → pin_spot k < state_length n
unfolding pin_spot state_length
pin_room n k h = omega arith

pub pin_apart : (j k g count : ℕ) → g + count ≤ 18 → (pin_spot j + 1 ≤ spot k g) ⊎ (spot k g + 6 * count ≤ pin_spot j)
unfolding pin_spot spot
pin_apart j k g count l = ⊎_elim (λ a. inl (omega arith)) (λ a. inr (omega arith)) (lt_or_le j k)

pub one_byte : (xs : List ℕ) (i : ℕ) → get_or xs i 0 ≡ get_or (take 1 (drop i xs)) 0 0
one_byte xs i = let e : i + 0 ≡ i = omega arith in sym (get_or-take 1 (drop i xs) 0 0 (omega arith) ∙ get_or-drop i xs 0 0 ∙ ap (λ (j : ℕ). get_or xs j 0) e)

-- what is laid over groups leaves every pin
pub pin_splice : (n j k g count : ℕ) (new state : List ℕ) → length new ≡ 6 * count → k < n → g + count ≤ 18 → length state ≡ state_length n
    → pin j (splice (spot k g) new state) ≡ pin j state
unfolding pin
pin_splice n j k g count new state long hk l whole =
    let room = within n k g count hk l in
    one_byte (splice (spot k g) new state) (pin_spot j)
    ∙ ap (λ (x : List ℕ). get_or x 0 0)
    (⊎_elim
    (λ a. splice_before (pin_spot j) 1 (spot k g) new state a (omega arith))
    (λ a. splice_after (pin_spot j) 1 (spot k g) new state (omega arith) (omega arith))
    (pin_apart j k g count l))
    ∙ sym (one_byte state (pin_spot j))

-- no pin is above 1: each is 0 or 1
pub above_none : (n : ℕ) (state : List ℕ) → pin_above n state ≡ false → (k : ℕ) → k < n → pin k state ≤ 1
unfolding pin_above
above_none zero state e k h = absurd (omega arith)
above_none (suc n) state e k h =
    ⊎_elim
    (λ q. omega (arith, ap (λ (i : ℕ). pin i state) q, ltb-false 1 (pin n state) (or_right (pin_above n state) (ltb 1 (pin n state)) e)))
    (λ l. above_none n state (or_left (pin_above n state) (ltb 1 (pin n state)) e) k l)
    (eq-or-lt_of_le (le_of_suc-le-suc h))

pub none_above : (n : ℕ) (state : List ℕ) → ((k : ℕ) → k < n → pin k state ≤ 1) → pin_above n state ≡ false
unfolding pin_above
none_above zero state h = refl
none_above (suc n) state h = ap₂ (λ (a b : Bool). a || b) (none_above n state (λ k l. h k (omega arith))) (le-ltb 1 (pin n state) (h n (omega arith)))

-- one turn of the search, at a place that the code has worked out
pub none_yet : (k at : ℕ) (state : List ℕ) → at ≡ pin_spot k → get_or state at 0 ≤ 1 → pin_above k state ≡ false → pin_above (k + 1) state ≡ false
unfolding pin_above pin
none_yet k at state e h below = rw (add-one, below) (le-ltb 1 (get_or state (pin_spot k) 0) (rw e at h))

pub one_above : (n k at : ℕ) (state : List ℕ) → at ≡ pin_spot k → k < n → 1 < get_or state at 0 → pin_above n state ≡ true
unfolding pin
one_above n k at state e h l = go (pin_above n state) refl
  where
    go : (b : Bool) → pin_above n state ≡ b → b ≡ true
    go true t = refl
    go false t = absurd (omega (arith, above_none n state t k h, ap (λ (i : ℕ). get_or state i 0) e))

-- a pin of a sound state, at a place that the code has worked out
pub pin_small : (n k at : ℕ) (state : List ℕ) → Sound n state → at ≡ pin_spot k → k < n → get_or state at 0 ≤ 1
unfolding pin
pin_small n k at state s e h = rw e (s.pins k h)

-- the state stays sound where its length and its pins stay
pub still_sound : (n : ℕ) (state after : List ℕ) → Sound n state → length after ≡ state_length n → ((k : ℕ) → k < n → pin k after ≡ pin k state) → Sound n after
still_sound n state after s l e = record { whole = l; pins = λ k h. omega (arith, e k h, s.pins k h) }

module _ (n k g : ℕ) (new state : List ℕ) (six : length new ≡ 6) (hk : k < n) (hg : g < 18) (whole : length state ≡ state_length n) where
  abbrev kept : List ℕ
  kept = with_dten g (dten (stored k g state)) new

  kept_six : length kept ≡ 6
  kept_six = length_with_dten g (dten (stored k g state)) new ∙ six

  pub length_storing : length (storing k g new state) ≡ length state
  unfolding storing
  length_storing = length_splice (spot k g) kept state (omega (arith, within n k g 1 hk (omega arith), kept_six))

  pub stored_own : stored k g (storing k g new state) ≡ kept
  unfolding storing stored
  stored_own = splice_same (spot k g) 6 kept state kept_six (omega (arith, within n k g 1 hk (omega arith)))

  pub stored_other : (j h : ℕ) → h < 18 → (j ≡ k → h ≡ g → ⊥) → stored j h (storing k g new state) ≡ stored j h state
  unfolding storing stored
  stored_other j h lh ne =
      let room = within n k g 1 hk (omega arith) in
      let long = kept_six in
      ⊎_elim
      (λ a. splice_before (spot j h) 6 (spot k g) kept state a (omega arith))
      (λ a. splice_after (spot j h) 6 (spot k g) kept state (omega arith) (omega arith))
      (apart j h k g 1 lh (omega arith) (λ e. differ (ne e)))
    where
      differ : (h ≡ g → ⊥) → (h < g) ⊎ (g + 1 ≤ h)
      differ unlike = ⊎_elim (λ a. inl a) (λ a. ⊎_elim (λ e. absurd (unlike (omega arith))) (λ b. inr (omega arith)) (eq-or-lt_of_le a)) (lt_or_le h g)

  pub pin_storing : (j : ℕ) → pin j (storing k g new state) ≡ pin j state
  unfolding storing
  pin_storing j = pin_splice n j k g 1 kept state kept_six hk (omega arith) whole

pub bytes_storing : (k g : ℕ) (new state : List ℕ) → Bytes new → Bytes state → Bytes (storing k g new state)
unfolding storing
bytes_storing k g new state hn hs =
    bytes_splice (spot k g) (with_dten g (dten (stored k g state)) new) state (bytes_with_dten g (dten (stored k g state)) new (dten_small (stored k g state)) hn) hs
