-- A pin changed between 0 and 1 changes its own byte, and of a read of CFGA that device's group: nothing else. Assumes nothing.
use mathlib.Core.Path.{◌≡◌, refl, sym, ap, ap₂, ◌∙◌, subst}
use mathlib.Core.Bool.{Bool, true, false, ◌&&◌}
use mathlib.Core.Logic.{⊎_elim}
use mathlib.Core.List.{List, ◌++◌}
use Prim.Native.Nat.{ℕ, zero, suc, ◌+◌, ◌*◌, ◌≤◌, ◌<◌}
use native.Mathlib.Nat.{eq-or-lt_of_le}
use native.Mathlib.Omega.{arith}
use borrow.Author.Tests.{eqb-true, eqb-false}
use lib.Dec.{eqb}
use lib.ListN.{length, take}
use lib.Seq.{take_at}
use Rattle.lent.specs.Memory.{over, splice}
use Rattle.lent.specs.Refusal.{pick}
use Rattle.lent.proofs.Pick.{pick_true, pick_false}
use Rattle.lent.proofs.Splice.{length_splice, splice_over, splice_before}
use Rattle.lent.proofs.Tests.{and_left, and_right, lt_or_le}
use Rattle.pec.specs.Group.{with_pec}
use Rattle.pec.proofs.Group.{length_with_pec, take_with_pec}
use Rattle.frames.specs.Kind.{is_read}
use Rattle.frames.specs.Commands.{kind_of, group_of}
use Rattle.frames.specs.Places.{eight}
use Rattle.frames.proofs.Lookup.{group_below}
use Rattle.registers.specs.Dten.{dten, with_dten}
use Rattle.registers.specs.State.{state_length, stored, pin, shown, Sound}
use Rattle.registers.specs.Effect.{silence, answers, answer, changed}
use Rattle.chain.specs.Chain.{code_of, chain_number, chain_word, chain_state, chain_reply, Serves}
use Rattle.chain.specs.Pins.{with_pin, reads_cfga, PinShows}
use Rattle.chain.specs.declared.Heard.{Heard}
use Rattle.registers.proofs.DtenLaws.{no_dten, dten_with, dten_again, length_with_dten}
use Rattle.registers.proofs.StateLaws.{shown_alike, state_ext, length_stored, length_shown}
use Rattle.registers.proofs.Silence.{length_silence}
use Rattle.registers.proofs.ClearLaws.{clear_room}
use Rattle.registers.proofs.ReadLaws.{length_answered, eight_answers}
use Rattle.registers.proofs.Obeyed.{length_changed, pin_changed, changed_alike}
use Rattle.chain.proofs.Accepted.{Accepted, accepted}
use Rattle.chain.proofs.WithPin.{length_with_pin, pin_own, pin_other, stored_with_pin, judged_alike}
use Rattle.chain.proofs.ReplyGroups.{eight_ext, eight_over, eight_own, eight_before, eight_behind, dten_with_pec}
use Rattle.chain.proofs.Determined.{heard}

-- the reply to a read
abbrev shown_by : ℕ → ℕ → List ℕ → List ℕ
shown_by n g state = silence 4 ++ answers n g state

-- ANOTHER PIN of device j + 1
module _ (n j p : ℕ) (state : List ℕ) (S : Sound n state) (hj : j < n) (lp : p ≤ 1) where
  abbrev other : List ℕ
  other = with_pin j p state

  abbrev group : List ℕ
  group = with_pec (with_dten 0 p (stored j 0 state))

  other_whole : length other ≡ state_length n
  other_whole = length_with_pin j p state ∙ S.whole

  other_sound : Sound n other
  other_sound = record { whole = other_whole; pins = λ k h. by_device k h (eqb k j) refl }
    where
      by_device : (k : ℕ) → k < n → (b : Bool) → eqb k j ≡ b → pin k other ≤ 1
      by_device k h true e = omega (arith, ap (λ (i : ℕ). pin i other) (eqb-true k j e), pin_own j p state n hj S.whole)
      by_device k h false e = omega (arith, pin_other j p state k (eqb-false k j e), S.pins k h)

  -- what is shown of CFGA, and of every other group
  shown_own : shown j 0 other ≡ with_dten 0 p (stored j 0 state)
  unfolding shown
  shown_own = ap₂ (with_dten 0) (pin_own j p state n hj S.whole) (stored_with_pin j p state j 0 (omega arith))

  shown_else : (k : ℕ) → (k ≡ j → ⊥) → shown k 0 other ≡ shown k 0 state
  shown_else k ne = shown_alike k 0 other state (stored_with_pin j p state k 0 (omega arith)) (pin_other j p state k ne)

  shown_plain : (k g : ℕ) → g < 18 → (g ≡ 0 → ⊥) → shown k g other ≡ shown k g state
  unfolding shown
  shown_plain k g hg ne =
      no_dten g (pin k other) (stored k g other) ne ∙ stored_with_pin j p state k g hg ∙ sym (no_dten g (pin k state) (stored k g state) ne)

  answers_plain : (g : ℕ) → g < 18 → (g ≡ 0 → ⊥) → (k : ℕ) → answers k g other ≡ answers k g state
  unfolding answers
  answers_plain g hg ne zero = refl
  answers_plain g hg ne (suc k) = ap₂ (λ (a b : List ℕ). a ++ with_pec b) (answers_plain g hg ne k) (shown_plain k g hg ne)

  group_long : length group ≡ 8
  group_long =
      omega (
        arith,
        length_with_pec (with_dten 0 p (stored j 0 state)),
        length_with_dten 0 p (stored j 0 state),
        length_stored n j 0 state hj (omega arith) S.whole,
      )

  -- the reply to a read of CFGA has that device's group anew, and every other as it was
  answers_cfga : shown_by n 0 other ≡ splice (4 + 8 * j) group (shown_by n 0 state)
  answers_cfga =
      eight_ext n (shown_by n 0 other) (splice (4 + 8 * j) group old) (length_answered n 0 other (omega arith) other_whole)
      (length_splice (4 + 8 * j) group old room ∙ long) four each
    where
      old : List ℕ
      old = shown_by n 0 state

      long : length old ≡ 4 + 8 * n
      long = length_answered n 0 state (omega arith) S.whole

      room : 4 + 8 * j + length group ≤ length old
      room = omega (arith, long, group_long)

      four : take 4 (shown_by n 0 other) ≡ take 4 (splice (4 + 8 * j) group old)
      four =
          take_at (silence 4) (answers n 0 other) 4 (length_silence 4)
          ∙ sym (take_at (silence 4) (answers n 0 state) 4 (length_silence 4))
          ∙ sym (splice_before 0 4 (4 + 8 * j) group old (omega arith) (omega (arith, room)))

      kept : (k : ℕ) → k < n → (k ≡ j → ⊥) → eight k (shown_by n 0 other) ≡ eight k old
      kept k h ne =
          eight_answers n 0 other (omega arith) other_whole k h ∙ ap with_pec (shown_else k ne) ∙ sym (eight_answers n 0 state (omega arith) S.whole k h)

      fits : 4 + 8 * j + 8 ≤ length old
      fits = omega (arith, long)

      own : eight j (shown_by n 0 other) ≡ eight j (splice (4 + 8 * j) group old)
      own = eight_answers n 0 other (omega arith) other_whole j hj ∙ ap with_pec shown_own ∙ sym (eight_own j j group old group_long fits)

      each : (k : ℕ) → k < n → eight k (shown_by n 0 other) ≡ eight k (splice (4 + 8 * j) group old)
      each k h =
          ⊎_elim (λ l. kept k h (λ e. omega arith) ∙ sym (eight_before j k group old group_long fits l))
          (λ l. ⊎_elim (λ e. subst (λ (i : ℕ). eight i (shown_by n 0 other) ≡ eight i (splice (4 + 8 * j) group old)) e own)
          (λ m. kept k h (λ e. omega arith) ∙ sym (eight_behind j k group old group_long fits m)) (eq-or-lt_of_le l))
          (lt_or_le k j)

  -- the reply of a good frame, by whether it is a read of CFGA
  reply_changed : (kind g : ℕ) (frame reply : List ℕ) → g < 18 → (c : Bool) → is_read kind ≡ c → (d : Bool) → eqb g 0 ≡ d
      → over (answer n kind g frame other) reply
      ≡ pick (c && d) (splice (4 + 8 * j) group (over (answer n kind g frame state) reply)) (over (answer n kind g frame state) reply)
  unfolding answer
  reply_changed kind g frame reply hg false e d q = unfold pick in
      ap (λ (x : List ℕ). over x reply) (pick_false (is_read kind) _ _ e ∙ sym (pick_false (is_read kind) _ _ e))
  reply_changed kind g frame reply hg true e false q = unfold pick in
      ap (λ (x : List ℕ). over x reply)
      (pick_true (is_read kind) _ _ e ∙ ap (λ (x : List ℕ). silence 4 ++ x) (answers_plain g hg (eqb-false g 0 q) n) ∙ sym (pick_true (is_read kind) _ _ e))
  reply_changed kind g frame reply hg true e true q = unfold pick in
      (ap (λ (x : List ℕ). over x reply) (pick_true (is_read kind) _ _ e ∙ ap (λ (i : ℕ). shown_by n i other) z ∙ answers_cfga)
      ∙ sym (splice_over (4 + 8 * j) group (shown_by n 0 state) reply (omega (arith, length_answered n 0 state (omega arith) S.whole, group_long)))
      ∙ ap (λ (x : List ℕ). splice (4 + 8 * j) group (over x reply)) (sym (pick_true (is_read kind) _ _ e ∙ ap (λ (i : ℕ). shown_by n i state) z)))
    where
      z : g ≡ 0
      z = eqb-true g 0 q

-- A READ OF CFGA shows the pin
module _ (n : ℕ) (frame state reply : List ℕ) (r : Heard) (after came : List ℕ) (s : Serves n frame state reply r after came) (q : reads_cfga r.number frame ≡ true) where
  abbrev kind : ℕ
  kind = kind_of (code_of frame)

  abbrev g : ℕ
  g = group_of (code_of frame)

  obeyed : eqb r.number 0 ≡ true
  obeyed = and_left (eqb r.number 0) (is_read kind && eqb g 0) (unfold reads_cfga in q)

  of_cfga : (is_read kind && eqb g 0) ≡ true
  of_cfga = and_right (eqb r.number 0) (is_read kind && eqb g 0) (unfold reads_cfga in q)

  good : Accepted n frame state (length reply)
  good = accepted n frame state (length reply) (sym s.number ∙ eqb-true r.number 0 obeyed)

  answered : came ≡ over (shown_by n 0 state) reply
  unfolding chain_reply answer
  answered =
      s.answered ∙ pick_true (eqb r.number 0) _ _ obeyed
      ∙ ap (λ (x : List ℕ). over x reply)
      (pick_true (is_read kind) _ _ (and_left (is_read kind) (eqb g 0) of_cfga) ∙ ap (λ (i : ℕ). shown_by n i state) (eqb-true g 0 (and_right (is_read kind) (eqb g 0) of_cfga)))

  shows : (k : ℕ) → k < n → dten (eight k came) ≡ pin k state
  shows k h =
      let whole = good.sound.whole in
      ap (λ (x : List ℕ). dten (eight k x)) answered
      ∙ ap dten
      (eight_over k (shown_by n 0 state) reply (omega (arith, length_answered n 0 state (omega arith) whole)) ∙ eight_answers n 0 state (omega arith) whole k h)
      ∙ dten_with_pec (shown k 0 state) (omega (arith, length_shown n k 0 state h (omega arith) whole))
      ∙ its_bit k h
    where
      its_bit : (k : ℕ) → k < n → dten (shown k 0 state) ≡ pin k state
      its_bit k h = unfold shown in
          dten_with (pin k state) (stored k 0 state) (good.sound.pins k h) (omega (arith, length_stored n k 0 state h (omega arith) good.sound.whole))

  -- it shows what is stored but for DTEN, so that to put DTEN into either is the same
  same_group : (p k : ℕ) → k < n → with_dten 0 p (take 6 (eight k came)) ≡ with_dten 0 p (stored k 0 state)
  same_group p k h =
      let whole = good.sound.whole in
      let again : with_dten 0 p (shown k 0 state) ≡ with_dten 0 p (stored k 0 state) = unfold shown in dten_again 0 p (pin k state) (stored k 0 state) (good.sound.pins k h) in
      ap (λ (x : List ℕ). with_dten 0 p (take 6 (eight k x))) answered
      ∙ ap (λ (x : List ℕ). with_dten 0 p (take 6 x))
      (eight_over k (shown_by n 0 state) reply (omega (arith, length_answered n 0 state (omega arith) whole)) ∙ eight_answers n 0 state (omega arith) whole k h)
      ∙ ap (with_dten 0 p) (take_with_pec (shown k 0 state) 6 (length_shown n k 0 state h (omega arith) whole))
      ∙ again

-- A FRAME THAT WAS OBEYED, on both states
module _ (n j p : ℕ) (frame state reply : List ℕ) (S : Sound n state) (hj : j < n) (lp : p ≤ 1) (A : Accepted n frame state (length reply)) where
  abbrev kind' : ℕ
  kind' = kind_of (code_of frame)

  abbrev g' : ℕ
  g' = group_of (code_of frame)

  abbrev next : List ℕ
  next = with_pin j p state

  whole' : length next ≡ state_length n
  whole' = length_with_pin j p state ∙ S.whole

  long : (x : List ℕ) → length x ≡ state_length n → length (changed n kind' g' frame x) ≡ state_length n
  long x whole = length_changed n kind' g' frame x (group_below (code_of frame)) A.long (clear_room (code_of frame)) whole

  pin_kept : (x : List ℕ) → length x ≡ state_length n → (k : ℕ) → pin k (changed n kind' g' frame x) ≡ pin k x
  pin_kept x whole = pin_changed n kind' g' frame x (group_below (code_of frame)) A.long (clear_room (code_of frame)) whole

  -- the pin is all that differs in what they leave
  left_alike : changed n kind' g' frame next ≡ with_pin j p (changed n kind' g' frame state)
  left_alike =
      state_ext n (changed n kind' g' frame next) (with_pin j p after) (long next whole') (length_with_pin j p after ∙ long state S.whole)
      (λ k h lk lh. changed_alike n kind' g' frame frame next state (group_below (code_of frame)) A.long A.long (clear_room (code_of frame)) whole' S.whole k lk refl
      (λ i li. stored_with_pin j p state k i li) h lh ∙ sym (stored_with_pin j p after k h lh))
      (λ k lk. pins k (eqb k j) refl)
    where
      after : List ℕ
      after = changed n kind' g' frame state

      pins : (k : ℕ) → (b : Bool) → eqb k j ≡ b → pin k (changed n kind' g' frame next) ≡ pin k (with_pin j p after)
      pins k true e =
          pin_kept next whole' k
          ∙ ap (λ (i : ℕ). pin i next) (eqb-true k j e)
          ∙ pin_own j p state n hj S.whole
          ∙ sym (ap (λ (i : ℕ). pin i (with_pin j p after)) (eqb-true k j e) ∙ pin_own j p after n hj (long state S.whole))
      pins k false e =
          pin_kept next whole' k ∙ pin_other j p state k (eqb-false k j e) ∙ sym (pin_other j p after k (eqb-false k j e) ∙ pin_kept state S.whole k)

-- THE STATEMENT
pub pin_shows : PinShows
pin_shows n j p frame state reply hj old lp r r' after after' came came' s s' = (
  ap₂ heard same (s.word ∙ ap (λ (x : ℕ). chain_word x n frame) same ∙ sym s'.word),
  registers (eqb r.number 0) refl,
  answers_differ ∙ from_the_reply (reads_cfga r.number frame) refl,
  λ q. (
    shows n frame state reply r after came s q j hj,
    shows n frame next reply r' after' came' s' (ap (λ (x : ℕ). reads_cfga x frame) (sym same) ∙ q) j hj
        ∙ pin_own j p state n hj (obeyed_by_it q).sound.whole,
  ),
)
  where
    next : List ℕ
    next = with_pin j p state

    kind : ℕ
    kind = kind_of (code_of frame)

    g : ℕ
    g = group_of (code_of frame)

    -- both are judged alike
    number_alike : chain_number n frame next (length reply) ≡ chain_number n frame state (length reply)
    number_alike = unfold chain_number in rw (judged_alike j p state old lp n hj)

    same : r.number ≡ r'.number
    same = s.number ∙ sym number_alike ∙ sym s'.number

    accepts : eqb r.number 0 ≡ true → Accepted n frame state (length reply)
    accepts e = accepted n frame state (length reply) (sym s.number ∙ eqb-true r.number 0 e)

    obeyed_by_it : reads_cfga r.number frame ≡ true → Accepted n frame state (length reply)
    obeyed_by_it q = good n frame state reply r after came s q

    left : after ≡ chain_state r.number n frame state
    left = s.registers

    left' : after' ≡ chain_state r.number n frame next
    left' = s'.registers ∙ ap (λ (x : ℕ). chain_state x n frame next) (sym same)

    registers : (b : Bool) → eqb r.number 0 ≡ b → after' ≡ with_pin j p after
    registers true e =
        let A = accepts e in
        let is : after ≡ changed n kind g frame state = left ∙ (unfold chain_state in pick_true (eqb r.number 0) _ state e) in
        let is' : after' ≡ changed n kind g frame next = left' ∙ (unfold chain_state in pick_true (eqb r.number 0) _ next e) in
        is' ∙ left_alike n j p frame state reply A.sound hj lp A ∙ ap (with_pin j p) (sym is)
    registers false e =
        let is : after ≡ state = left ∙ (unfold chain_state in pick_false (eqb r.number 0) _ state e) in
        let is' : after' ≡ next = left' ∙ (unfold chain_state in pick_false (eqb r.number 0) _ next e) in
        is' ∙ ap (with_pin j p) (sym is)

    -- and what each answers
    group : List ℕ
    group = with_pec (with_dten 0 p (stored j 0 state))

    replies : (b : Bool) → eqb r.number 0 ≡ b
        → chain_reply r.number n frame next reply
        ≡ pick (b && (is_read kind && eqb g 0)) (splice (4 + 8 * j) group (chain_reply r.number n frame state reply)) (chain_reply r.number n frame state reply)
    replies true q = unfold chain_reply in
        (pick_true (eqb r.number 0) _ _ q
        ∙ reply_changed n j p state (accepts q).sound hj lp kind g frame reply (group_below (code_of frame)) (is_read kind) refl (eqb g 0) refl
        ∙ ap (λ (x : List ℕ). pick (is_read kind && eqb g 0) (splice (4 + 8 * j) group x) x) (sym (pick_true (eqb r.number 0) _ _ q)))
    replies false q = unfold chain_reply in (pick_false (eqb r.number 0) _ _ q ∙ sym (pick_false (eqb r.number 0) _ _ q) ∙ sym (pick_false false _ _ refl))

    answers_differ : came' ≡ pick (reads_cfga r.number frame) (splice (4 + 8 * j) group came) came
    answers_differ =
        s'.answered
        ∙ ap (λ (x : ℕ). chain_reply x n frame next reply) (sym same)
        ∙ replies (eqb r.number 0) refl
        ∙ (unfold reads_cfga in ap (λ (x : List ℕ). pick (reads_cfga r.number frame) (splice (4 + 8 * j) group x) x) (sym s.answered))

    from_the_reply : (b : Bool) → reads_cfga r.number frame ≡ b
        → pick b (splice (4 + 8 * j) group came) came ≡ pick b (splice (4 + 8 * j) (with_pec (with_dten 0 p (take 6 (eight j came)))) came) came
    from_the_reply true q = unfold pick in ap (λ (x : List ℕ). splice (4 + 8 * j) (with_pec x) came) (sym (same_group n frame state reply r after came s q p j hj))
    from_the_reply false q = unfold pick in refl
