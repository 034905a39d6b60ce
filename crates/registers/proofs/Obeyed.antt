-- What each kind of command does, put together: the word, the state, and what is laid over the reply; the state stays as long as it was, and bytes,
-- pins and the stored DTEN stay; and each device stands alone. Assumes nothing.
use mathlib.Core.Path.{◌≡◌, refl, sym, ap, ap₂, ◌∙◌, subst}
use mathlib.Core.Bool.{Bool, true, false}
use mathlib.Core.Logic.{◌⊎◌, inl, inr, ⊎_elim}
use mathlib.Core.List.{List, ◌++◌}
use Prim.Native.Nat.{ℕ, ◌+◌, ◌-◌, ◌*◌, ◌^◌, ◌≤◌, ◌<◌}
use native.Mathlib.Omega.{arith}
use borrow.Author.Tests.{eqb-true, eqb-false, ne_eqb, lt-ltb}
use lib.Dec.{eqb}
use borrow.Rule.Slice.PartMut.{put_mid}
use lib.ListN.{length, take}
use Rattle.lent.specs.Bytes.{Bytes}
use Rattle.lent.specs.Memory.{over}
use Rattle.lent.specs.Refusal.{pick}
use Rattle.lent.proofs.Tests.{lt_or_le}
use Rattle.pec.specs.Group.{right}
use Rattle.frames.specs.Kind.{is_write, is_read, is_clear, frame_length}
use Rattle.frames.specs.Places.{wire}
use Rattle.frames.proofs.KindCases.{length_short, length_long}
use Rattle.registers.specs.Dten.{dten, with_dten}
use Rattle.registers.specs.State.{state_length, stored, pin}
use Rattle.registers.specs.Effect.{silence, answers, answer, written, stored_bits, clear_count, cleared, changed, report}
use Rattle.registers.proofs.Silence.{silence_more, none_silent, behind_silence}
use Rattle.registers.proofs.WriteLaws.{length_written, written_other, written_own, written_pin, written_bit, bytes_written}
use Rattle.registers.proofs.ClearLaws.{length_cleared, cleared_other, cleared_own, cleared_pin, bytes_cleared}

-- BY THE KIND: `part` is the part of the reply behind the command, and `after` what it became.
module _ (n kind g : ℕ) (frame state part : List ℕ) (size : length frame ≡ frame_length n kind) (behind : 4 + length part ≡ length frame) where
  pub obeyed_write : (word : ℕ) (state' after : List ℕ) → kind ≡ 1 → word ≡ stored_bits n n frame → state' ≡ written n n g frame state → after ≡ silence (8 * n)
      → (word ≡ report n kind frame) × (state' ≡ changed n kind g frame state) × (after ≡ pick (is_read kind) (answers n g state) (silence (length part)))
  unfolding report changed pick
  obeyed_write word state' after e w s p =
      let long : 8 * n ≡ length part = omega (arith, size ∙ length_long n kind (omega arith)) in
      (rw e w, rw e s, rw e (p ∙ ap silence long))

  pub obeyed_read : (after : List ℕ) → kind ≡ 2 → after ≡ answers n g state
      → (0 ≡ report n kind frame) × (state ≡ changed n kind g frame state) × (after ≡ pick (is_read kind) (answers n g state) (silence (length part)))
  unfolding report changed pick
  obeyed_read after e p = (rw e, rw e, rw e p)

  -- a frame that is the command group alone
  nothing_behind : 2 < kind → part ≡ silence (length part)
  nothing_behind h = none_silent part (omega (arith, size ∙ length_short n kind h))

  pub obeyed_clear : (word : ℕ) (state' : List ℕ) → kind ≡ 3 → word ≡ 2 ^ n - 1 → state' ≡ cleared n g (clear_count g) state
      → (word ≡ report n kind frame) × (state' ≡ changed n kind g frame state) × (part ≡ pick (is_read kind) (answers n g state) (silence (length part)))
  unfolding report changed pick
  obeyed_clear word state' e w s = (rw e w, rw e s, rw e (nothing_behind (omega arith)))

  pub obeyed_conversion : (word : ℕ) → 3 < kind → word ≡ 2 ^ n - 1
      → (word ≡ report n kind frame) × (state ≡ changed n kind g frame state) × (part ≡ pick (is_read kind) (answers n g state) (silence (length part)))
  unfolding report changed pick
  obeyed_conversion word h w =
      let e1 = ne_eqb kind 1 (λ e. omega arith) in
      let e2 = ne_eqb kind 2 (λ e. omega arith) in
      let e3 = ne_eqb kind 3 (λ e. omega arith) in
      (rw (e1, lt-ltb 2 kind (omega arith)) w, rw (e1, e3), rw e2 (nothing_behind (omega arith)))

-- the reply: four bytes are filled, and the part behind them is obeyed
pub answered_over : (n kind g behind : ℕ) (frame state reply head after : List ℕ) → head ≡ silence (length (take (4 - 0) reply)) → 4 + behind ≡ length frame
    → length after ≡ behind → length frame ≤ length reply → after ≡ pick (is_read kind) (answers n g state) (silence behind)
    → put_mid 4 (length frame - 4) (put_mid 0 (4 - 0) reply head) after ≡ over (answer n kind g frame state) reply
unfolding answer
answered_over n kind g behind frame state reply head after four size long room e =
    behind_silence (length frame) reply head after four (omega arith) room ∙ ap (λ (l : List ℕ). over l reply) (ap (λ (l : List ℕ). silence 4 ++ l) e ∙ go (is_read kind))
  where
    go : (b : Bool) → silence 4 ++ pick b (answers n g state) (silence behind) ≡ pick b (silence 4 ++ answers n g state) (silence (length frame))
    go true = unfold pick in refl
    go false = unfold pick in (silence_more 4 behind ∙ ap silence size)

-- WHAT STAYS. What a write and a clear keep, every command keeps.
module _ (n kind g : ℕ) (frame state : List ℕ) where
  by_kind : (P : List ℕ → Type 0) → (kind ≡ 1 → P (written n n g frame state)) → (kind ≡ 3 → P (cleared n g (clear_count g) state)) → P state → P (changed n kind g frame state)
  unfolding changed
  by_kind P write clear same = go (is_write kind) refl (is_clear kind) refl
    where
      go : (w : Bool) → is_write kind ≡ w → (c : Bool) → is_clear kind ≡ c → P (pick w (written n n g frame state) (pick c (cleared n g (clear_count g) state) state))
      go true w c e = unfold pick in write (eqb-true kind 1 w)
      go false w true e = unfold pick in clear (eqb-true kind 3 e)
      go false w false e = unfold pick in same

  pub bytes_changed : Bytes frame → Bytes state → Bytes (changed n kind g frame state)
  bytes_changed bf bs = by_kind Bytes (λ w. bytes_written n g frame state bf bs n) (λ c. bytes_cleared g (clear_count g) state bs n) bs

  module _ (hg : g < 18) (long : length frame ≡ frame_length n kind) (room : kind ≡ 3 → g + clear_count g ≤ 18) (whole : length state ≡ state_length n) where
    size : kind ≡ 1 → length frame ≡ 4 + 8 * n
    size w = long ∙ length_long n kind (omega arith)

    pub length_changed : length (changed n kind g frame state) ≡ state_length n
    length_changed =
        by_kind (λ (x : List ℕ). length x ≡ state_length n) (λ w. length_written n g frame state hg (size w) whole n (omega arith))
        (λ c. length_cleared n g (clear_count g) state (room c) whole n (omega arith)) whole

    pub pin_changed : (k : ℕ) → pin k (changed n kind g frame state) ≡ pin k state
    pin_changed k =
        by_kind (λ (x : List ℕ). pin k x ≡ pin k state) (λ w. written_pin n g frame state hg (size w) whole n k (omega arith))
        (λ c. cleared_pin n g (clear_count g) state (room c) whole n k (omega arith)) refl

    pub bit_changed : (kind ≡ 3 → 1 ≤ g) → (k : ℕ) → k < n → dten (stored k 0 (changed n kind g frame state)) ≡ dten (stored k 0 state)
    bit_changed high k h =
        by_kind (λ (x : List ℕ). dten (stored k 0 x) ≡ dten (stored k 0 state)) (λ w. written_bit n g frame state hg (size w) whole k h)
        (λ c. ap dten (cleared_other n g (clear_count g) state (room c) whole n k 0 (omega arith) (omega arith) (λ a. inl (high c)))) refl

-- A DEVICE STANDS ALONE: what its registers become goes by its own group on the wire and by what they were
module _ (n kind g : ℕ) (frame frame' state state' : List ℕ) (hg : g < 18) (long : length frame ≡ frame_length n kind) (long' : length frame' ≡ frame_length n kind)
    (room : kind ≡ 3 → g + clear_count g ≤ 18) (whole : length state ≡ state_length n) (whole' : length state' ≡ state_length n) (j : ℕ) (hj : j < n)
    (own : wire n j frame ≡ wire n j frame') (old : (h : ℕ) → h < 18 → stored j h state ≡ stored j h state') where
  written_alike : (h : ℕ) → h < 18 → kind ≡ 1 → stored j h (written n n g frame state) ≡ stored j h (written n n g frame' state')
  written_alike h lh write = go (eqb h g) refl
    where
      size : length frame ≡ 4 + 8 * n
      size = long ∙ length_long n kind (omega arith)

      size' : length frame' ≡ 4 + 8 * n
      size' = long' ∙ length_long n kind (omega arith)

      go : (b : Bool) → eqb h g ≡ b → stored j h (written n n g frame state) ≡ stored j h (written n n g frame' state')
      go true e =
          subst (λ (x : ℕ). stored j x (written n n g frame state) ≡ stored j x (written n n g frame' state')) (sym (eqb-true h g e))
          (written_own n g frame state hg size whole n j (omega arith) hj
          ∙ ap₂ (λ (x y : List ℕ). pick (right x) (with_dten g (dten y) (take 6 x)) y) own (old g hg)
          ∙ sym (written_own n g frame' state' hg size' whole' n j (omega arith) hj))
      go false e =
          written_other n g frame state hg size whole n j h (omega arith) lh (λ a q. eqb-false h g e q)
          ∙ old h lh
          ∙ sym (written_other n g frame' state' hg size' whole' n j h (omega arith) lh (λ a q. eqb-false h g e q))

  cleared_alike : (h : ℕ) → h < 18 → kind ≡ 3 → stored j h (cleared n g (clear_count g) state) ≡ stored j h (cleared n g (clear_count g) state')
  cleared_alike h lh clear = ⊎_elim (λ a. apart (inl a)) (λ a. ⊎_elim (λ b. within a b) (λ b. apart (inr b)) (lt_or_le h (g + clear_count g))) (lt_or_le h g)
    where
      apart : (h < g) ⊎ (g + clear_count g ≤ h) → stored j h (cleared n g (clear_count g) state) ≡ stored j h (cleared n g (clear_count g) state')
      apart e =
          cleared_other n g (clear_count g) state (room clear) whole n j h (omega arith) lh (λ a. e)
          ∙ old h lh
          ∙ sym (cleared_other n g (clear_count g) state' (room clear) whole' n j h (omega arith) lh (λ a. e))

      within : g ≤ h → h < g + clear_count g → stored j h (cleared n g (clear_count g) state) ≡ stored j h (cleared n g (clear_count g) state')
      within a b =
          cleared_own n g (clear_count g) state (room clear) whole n j h (omega arith) hj a b
          ∙ sym (cleared_own n g (clear_count g) state' (room clear) whole' n j h (omega arith) hj a b)

  pub changed_alike : (h : ℕ) → h < 18 → stored j h (changed n kind g frame state) ≡ stored j h (changed n kind g frame' state')
  unfolding changed
  changed_alike h lh = go (is_write kind) refl (is_clear kind) refl
    where
      go : (w : Bool) → is_write kind ≡ w → (c : Bool) → is_clear kind ≡ c
          → stored j h (pick w (written n n g frame state) (pick c (cleared n g (clear_count g) state) state))
          ≡ stored j h (pick w (written n n g frame' state') (pick c (cleared n g (clear_count g) state') state'))
      go true w c e = unfold pick in written_alike h lh (eqb-true kind 1 w)
      go false w true e = unfold pick in cleared_alike h lh (eqb-true kind 3 e)
      go false w false e = unfold pick in old h lh
