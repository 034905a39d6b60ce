-- Changing one device's group on the wire at will alters no other device's registers nor pin, nor its bit of the word. Number, kind and group depend on the first
-- four bytes and the length; what a device stores, and its bit, on its own group. Assumes nothing.
use mathlib.Core.Path.{◌≡◌, refl, sym, ap, ◌∙◌}
use mathlib.Core.Bool.{Bool, true, false}
use mathlib.Core.List.{List}
use Prim.Native.Nat.{ℕ, ◌/◌, ◌%◌, ◌^◌, ◌<◌}
use borrow.Author.Tests.{eqb-true}
use lib.Dec.{eqb}
use lib.ListN.{length, take}
use Rattle.lent.specs.Refusal.{pick}
use Rattle.lent.proofs.BitsWhere.{bits_at}
use Rattle.lent.proofs.Pick.{pick_true, pick_false}
use Rattle.pec.specs.Group.{right}
use Rattle.frames.specs.Places.{wire}
use Rattle.frames.specs.Commands.{kind_of, group_of}
use Rattle.frames.proofs.Lookup.{group_below}
use Rattle.registers.specs.State.{stored}
use Rattle.registers.specs.Effect.{stored_bits, changed, report}
use Rattle.chain.specs.Chain.{code_of, chain_number, chain_word, chain_state}
use Rattle.chain.specs.Alone.{Alone}
use Rattle.chain.proofs.CodeLaws.{code_alike}
use Rattle.chain.proofs.Accepted.{Accepted, accepted}
use Rattle.registers.proofs.ClearLaws.{clear_room}
use Rattle.registers.proofs.Obeyed.{changed_alike}
use Rattle.chain.proofs.PinLaws.{pins_stay}

-- the number depends on the first four bytes and the length
number_alike : (n : ℕ) (frame frame' state : List ℕ) (r : ℕ) → length frame ≡ length frame' → take 4 frame ≡ take 4 frame'
    → chain_number n frame state r ≡ chain_number n frame' state r
unfolding chain_number
number_alike n frame frame' state r l e = simp (l, e, code_alike frame frame' e)

-- the bit of device j + 1 in the word of a good frame
module _ (n kind : ℕ) (frame frame' : List ℕ) (j : ℕ) (hj : j < n) (own : wire n j frame ≡ wire n j frame') where
  report_alike : report n kind frame / 2 ^ j % 2 ≡ report n kind frame' / 2 ^ j % 2
  unfolding report stored_bits
  report_alike = go (eqb kind 1) refl
    where
      bit : ℕ → ℕ
      bit x = x / 2 ^ j % 2

      go : (b : Bool) → eqb kind 1 ≡ b → bit (report n kind frame) ≡ bit (report n kind frame')
      go true e =
          ap bit (pick_true (eqb kind 1) _ _ e)
          ∙ bits_at (λ (i : ℕ). right (wire n i frame)) n j hj
          ∙ ap (λ (x : List ℕ). pick (right x) 1 0) own
          ∙ sym (bits_at (λ (i : ℕ). right (wire n i frame')) n j hj)
          ∙ sym (ap bit (pick_true (eqb kind 1) _ _ e))
      go false e = ap bit (pick_false (eqb kind 1) _ _ e) ∙ sym (ap bit (pick_false (eqb kind 1) _ _ e))

pub alone : Alone
alone n k frame frame' state reply l four wires r r' after after' answer answer' s s' j hj ne =
    (registers, (pins_stay n frame state reply r after answer s j hj).0 ∙ sym (pins_stay n frame' state reply r' after' answer' s' j hj).0, word)
  where
    same : r.number ≡ r'.number
    same = s.number ∙ number_alike n frame frame' state (length reply) l four ∙ sym s'.number

    code : code_of frame ≡ code_of frame'
    code = code_alike frame frame' four

    good : r.number ≡ 0 → Accepted n frame state (length reply)
    good e = accepted n frame state (length reply) (sym s.number ∙ e)

    registers_alike : (h : ℕ) → h < 18 → Accepted n frame state (length reply)
        → stored j h (changed n (kind_of (code_of frame)) (group_of (code_of frame)) frame state) ≡ stored j h (changed n (kind_of (code_of frame)) (group_of (code_of frame)) frame' state)
    registers_alike h lh A =
        changed_alike n (kind_of (code_of frame)) (group_of (code_of frame)) frame frame' state state (group_below (code_of frame)) A.long (sym l ∙ A.long) (clear_room (code_of frame))
        A.sound.whole A.sound.whole j hj (wires j hj ne) (λ i li. refl) h lh

    by_number : (h : ℕ) → h < 18 → (b : Bool) → eqb r.number 0 ≡ b
        → stored j h (chain_state r.number n frame state) ≡ stored j h (chain_state r.number n frame' state)
    by_number h lh true e = unfold chain_state in
        (ap (stored j h) (pick_true (eqb r.number 0) _ _ e)
        ∙ registers_alike h lh (good (eqb-true r.number 0 e))
        ∙ ap (λ (x : ℕ). stored j h (changed n (kind_of x) (group_of x) frame' state)) code
        ∙ sym (ap (stored j h) (pick_true (eqb r.number 0) _ _ e)))
    by_number h lh false e = unfold chain_state in
        (ap (stored j h) (pick_false (eqb r.number 0) _ _ e) ∙ sym (ap (stored j h) (pick_false (eqb r.number 0) _ _ e)))

    registers : (h : ℕ) → h < 18 → stored j h after ≡ stored j h after'
    registers h lh =
        ap (stored j h) s.registers ∙ by_number h lh (eqb r.number 0) refl
        ∙ ap (λ (x : ℕ). stored j h (chain_state x n frame' state)) same ∙ sym (ap (stored j h) s'.registers)

    bit : ℕ → ℕ
    bit x = x / 2 ^ j % 2

    word_by : (b : Bool) → eqb r.number 0 ≡ b → bit (chain_word r.number n frame) ≡ bit (chain_word r.number n frame')
    word_by true e = unfold chain_word in
        (ap bit (pick_true (eqb r.number 0) _ _ e)
        ∙ report_alike n (kind_of (code_of frame)) frame frame' j hj (wires j hj ne)
        ∙ ap (λ (x : ℕ). bit (report n (kind_of x) frame')) code
        ∙ sym (ap bit (pick_true (eqb r.number 0) _ _ e)))
    word_by false e = unfold chain_word in (ap bit (pick_false (eqb r.number 0) _ _ e) ∙ sym (ap bit (pick_false (eqb r.number 0) _ _ e)))

    word : bit r.word ≡ bit r'.word
    word =
        ap bit s.word ∙ word_by (eqb r.number 0) refl ∙ ap (λ (x : ℕ). bit (chain_word x n frame')) same ∙ sym (ap bit s'.word)
