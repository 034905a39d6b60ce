-- A read: the answers one device after the other, and where each stands in the reply. Assumes nothing.
use mathlib.Core.Path.{◌≡◌, refl, sym, ap, ◌∙◌}
use mathlib.Core.List.{List, ◌++◌}
use Prim.Native.Nat.{ℕ, ◌+◌, ◌*◌, ◌-◌, ◌≤◌, ◌<◌}
use native.Mathlib.Numerals.{add-one}
use native.Mathlib.Omega.{arith}
use lib.ListN.{length, get_or, take, drop, replicate, length-append}
use lib.Seq.{drop-drop, drop_at}
use borrow.Rule.Slice.PartMut.{put_mid}
use Rattle.lent.specs.Memory.{over}
use Rattle.lent.proofs.Over.{length_over, over_more}
use Rattle.lent.proofs.Parts.{length_pieces, piece_at}
use Rattle.pec.specs.Group.{with_pec}
use Rattle.pec.proofs.Group.{length_with_pec}
use Rattle.frames.specs.Places.{eight}
use Rattle.registers.specs.Dten.{with_dten}
use Rattle.registers.specs.State.{state_length, spot, pin_spot, stored, pin, shown}
use Rattle.registers.specs.Effect.{silence, answers}
use Rattle.registers.proofs.StateLaws.{length_shown}

module _ (n g : ℕ) (state : List ℕ) (hg : g < 18) (whole : length state ≡ state_length n) where
  answer_long : (k : ℕ) → k < n → length (with_pec (shown k g state)) ≡ 8
  answer_long k h = omega (arith, length_with_pec (shown k g state), length_shown n k g state h hg whole)

  pub length_answers : (k : ℕ) → k ≤ n → length (answers k g state) ≡ 8 * k
  unfolding answers
  length_answers = length_pieces (λ (k : ℕ). answers k g state) (λ (k : ℕ). with_pec (shown k g state)) refl (λ k. refl) 8 n answer_long

  -- one turn of the loop that lays them into a part
  pub turn : (k from at : ℕ) (old part group : List ℕ) → k < n → from ≡ spot k g → at ≡ pin_spot k → length old ≡ 8 * n → part ≡ over (answers k g state) old
      → group ≡ with_pec (with_dten g (get_or state at 0) (take (from + 6 - from) (drop from state)))
      → (length (put_mid (8 * k) (8 * k + 8 - 8 * k) part group) ≡ length old) × (put_mid (8 * k) (8 * k + 8 - 8 * k) part group ≡ over (answers (k + 1) g state) old)
  unfolding stored pin shown answers
  turn k from at old part group h ef ea lo ep eg =
      let size : from + 6 - from ≡ 6 = omega arith in
      let its_own : group ≡ with_pec (shown k g state) = eg ∙ rw (size, ef, ea) in
      let long : length group ≡ 8 = ap length its_own ∙ answer_long k h in
      let laid : put_mid (8 * k) (8 * k + 8 - 8 * k) part group ≡ over (answers (k + 1) g state) old =
      ap (λ (l : List ℕ). put_mid (8 * k) (8 * k + 8 - 8 * k) l group) ep
      ∙ over_more (answers k g state) group old (8 * k) (8 * k + 8) (length_answers k (omega arith)) (omega arith) (omega arith)
      ∙ ap (λ (l : List ℕ). over (answers k g state ++ l) old) its_own
      ∙ rw add-one in
      (ap length laid ∙ length_over (answers (k + 1) g state) old (omega (arith, length_answers (k + 1) (omega arith))), laid)

  -- the reply: four bytes of silence, then the answers
  pub length_answered : length (silence 4 ++ answers n g state) ≡ 4 + 8 * n
  unfolding silence
  length_answered = length-append (replicate 4 255) (answers n g state) ∙ omega (arith, length_answers n (omega arith))

  -- device k + 1's group in the reply
  pub eight_answers : (k : ℕ) → k < n → eight k (silence 4 ++ answers n g state) ≡ with_pec (shown k g state)
  unfolding eight silence answers
  eight_answers k h =
      ap (take 8) (sym (drop-drop (8 * k) 4 (replicate 4 255 ++ answers n g state)) ∙ ap (drop (8 * k)) (drop_at (replicate 4 255) (answers n g state) 4 refl))
      ∙ piece_at (λ (j : ℕ). answers j g state) (λ (j : ℕ). with_pec (shown j g state)) refl (λ j. refl) 8 n answer_long n k (omega arith) h
