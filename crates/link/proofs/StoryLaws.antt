-- What a device holds after a run follows from demand 3 alone, for any rig; and the promise leaves no choice. Assumes nothing.
use mathlib.Core.Path.{◌≡◌, refl, sym, ap, ◌∙◌}
use mathlib.Core.Bool.{Bool, true, false, not, ◌||◌, ◌&&◌}
use mathlib.Core.Logic.{⊎_elim}
use mathlib.Core.List.{List, [], ◌∷◌}
use Prim.Native.Nat.{ℕ, ◌≤◌, ◌<◌}
use borrow.Author.Tests.{eqb-true, eqb-false}
use lib.Dec.{eqb}
use lib.ListN.{get_or, replicate}
use native.Mathlib.Omega.{arith}
use Rattle.lent.specs.Bytes.{Bytes}
use Rattle.lent.specs.Refusal.{pick}
use Rattle.lent.proofs.BitsWhere.{bits_ext}
use Rattle.lent.proofs.Pick.{pick_false, pick_not}
use Rattle.frames.specs.Places.{six}
use Rattle.frames.proofs.Lookup.{group_below}
use Rattle.registers.specs.Dten.{dten, with_dten}
use Rattle.registers.specs.State.{stored, pin, shown, Sound}
use Rattle.registers.proofs.StateLaws.{stored_alike, state_ext, still_sound}
use Rattle.link.specs.Rig.{Rig, ours}
use Rattle.link.specs.Sending.{Sending, kind, group, Fair}
use Rattle.link.specs.Step.{Seen, step}
use Rattle.link.specs.Promise.{lost, missed, unread, sweeps, Obeys}
use Rattle.link.specs.Demands.{AllFair, Demand3, after}
use Rattle.link.specs.Story.{takes, holds, left, Story}
use Rattle.link.proofs.DemandLaws.{demand3}

-- two ways to say "exactly when"
sweep_not : (a m : Bool) (x y : List ℕ) → pick (m || not a) y x ≡ pick (a && not m) x y
unfolding pick
sweep_not true true x y = refl
sweep_not true false x y = refl
sweep_not false true x y = refl
sweep_not false false x y = refl

-- ONE FRAME, as a function of what was hit
module _ (R : Rig) (n : ℕ) (s : Sending) (before : List ℕ) (r : Seen) (O : Obeys R n s before r) where
  taken : (k h : ℕ) → k < n → h < 18 → shown k h r.registers ≡ takes n k h (pin k before) s (shown k h before)
  unfolding takes pick
  taken k h lk lh = ⊎_elim write (⊎_elim read (⊎_elim clear conversion)) O.kinds
    where
      old : List ℕ
      old = shown k h before

      new : List ℕ
      new = with_dten h (pin k before) (six k s.bytes)

      own_group : (b : Bool) → eqb h (group s) ≡ b → kind s ≡ 1 → shown k h r.registers ≡ pick (b && not (missed n s k)) new old
      own_group true e w =
          let q : h ≡ group s = eqb-true h (group s) e in
          ap (λ (i : ℕ). shown k i r.registers) q
          ∙ (O.write w).own k lk
          ∙ ap (λ (i : ℕ). pick (missed n s k) (shown k i before) (with_dten i (pin k before) (six k s.bytes))) (sym q)
          ∙ sym (pick_not (missed n s k) new old)
      own_group false e w = (O.write w).others k h lk lh (eqb-false h (group s) e)

      write : kind s ≡ 1 → shown k h r.registers ≡ takes n k h (pin k before) s old
      write w = own_group (eqb h (group s)) refl w ∙ rw w

      read : kind s ≡ 2 → shown k h r.registers ≡ takes n k h (pin k before) s old
      read q = ap (shown k h) (O.read q).kept ∙ rw q

      clear : kind s ≡ 3 → shown k h r.registers ≡ takes n k h (pin k before) s old
      clear c = (O.clear c).all k h lk lh ∙ sweep_not (sweeps s.code h) (lost s) (replicate 6 255) old ∙ rw c

      conversion : kind s ≡ 4 → shown k h r.registers ≡ takes n k h (pin k before) s old
      conversion c = ap (shown k h) (O.conversion c).unchanged ∙ rw c

-- THE RUN
module _ (R : Rig) (d : Demand3 R) (n : ℕ) (a : 1 ≤ n) (b : n ≤ 16) where
  pub first_obeys : (state : List ℕ) → Bytes state → Sound n state → (s : Sending) → Fair n s → Obeys R n s state (step R n s state)
  first_obeys state are sound s F = (d n a b state are sound (s ∷ []) (F, tt)).0

  pub run_holds : (state : List ℕ) → Bytes state → Sound n state → (ss : List Sending) → AllFair n ss
      → Bytes (left R n state ss) × Sound n (left R n state ss)
      × ((k h : ℕ) → k < n → h < 18 → shown k h (left R n state ss) ≡ holds n k h (pin k state) ss (shown k h state))
      × ((k : ℕ) → k < n → (pin k (left R n state ss) ≡ pin k state) × (dten (stored k 0 (left R n state ss)) ≡ dten (stored k 0 state)))
  run_holds state are sound [] fair = (are, sound, (λ k h lk lh. refl), λ k lk. (refl, refl))
  run_holds state are sound (s ∷ ss) fair =
      let O = first_obeys state are sound s fair.0 in
      let next : List ℕ = after R n s state in
      let rest = run_holds next O.are_bytes (still_sound n state next sound O.size O.pins) ss fair.1 in (
        rest.0,
        rest.1,
        (λ k h lk lh.
            rest.2 k h lk lh
            ∙ ap (λ (p : ℕ). holds n k h p ss (shown k h next)) (O.pins k lk)
            ∙ ap (holds n k h (pin k state) ss) (taken R n s state (step R n s state) O k h lk lh)),
        λ k lk. ((rest.3 k lk).0 ∙ O.pins k lk, (rest.3 k lk).1 ∙ O.dten_stays k lk),
      )

pub story : (R : Rig) → Demand3 R → Story R
story R d n a b state are sound ss fair =
    let all = run_holds R d n a b state are sound ss fair in
    let end = left R n state ss in (
      all.2,
      all.3,
      λ r F q k lk u.
          let O = first_obeys R d n a b end all.0 all.1 r F in (
            eqb-true (get_or (step R n r end).marks k 0) 0 ((O.read q).mark k lk ∙ ap not u),
            (O.read q).bytes k lk ∙ pick_false (unread r k) (replicate 6 0) (shown k (group r) end) u ∙ all.2 k (group r) lk (group_below r.code),
          ),
    )

pub our_story : Story ours
our_story = story ours demand3

-- THE PROMISE LEAVES NO CHOICE: registers, word and numbers are determined, and so are the bytes read and which marks are 0.
module _ (R R' : Rig) (n : ℕ) (s : Sending) (before : List ℕ) (r r' : Seen) (O : Obeys R n s before r) (O' : Obeys R' n s before r') where
  pub same_registers : Sound n before → r.registers ≡ r'.registers
  same_registers sound =
      state_ext n r.registers r'.registers O.size O'.size
      (λ k h lk lh. stored_alike k h r.registers r'.registers (omega (arith, O.pins k lk, sound.pins k lk)) (omega (arith, O'.pins k lk, sound.pins k lk))
      (taken R n s before r O k h lk lh ∙ sym (taken R' n s before r' O' k h lk lh)) (O.dten_stays k lk ∙ sym (O'.dten_stays k lk)))
      (λ k lk. O.pins k lk ∙ sym (O'.pins k lk))

  pub same_word : r.word ≡ r'.word
  same_word =
      ⊎_elim (λ w. bits_ext n r.word r'.word (O.write w).no_more (O'.write w).no_more (λ k h. (O.write w).word k h ∙ sym ((O'.write w).word k h)))
      (⊎_elim (λ q. (O.read q).word ∙ sym (O'.read q).word) (⊎_elim (λ c. (O.clear c).word ∙ sym (O'.clear c).word) (λ c. (O.conversion c).word ∙ sym (O'.conversion c).word)))
      O.kinds

  pub same_numbers : (r.made ≡ r'.made) × (r.number ≡ r'.number)
  same_numbers = (O.made ∙ sym O'.made, O.number ∙ sym O'.number)

  pub same_asked : r.asked ≡ r'.asked
  same_asked = ⊎_elim (λ w. other (λ q. omega arith)) (⊎_elim (λ q. (O.read q).asked ∙ sym (O'.read q).asked) (⊎_elim (λ c. other (λ q. omega arith)) (λ c. other (λ q. omega arith)))) O.kinds
    where
      other : (kind s ≡ 2 → ⊥) → r.asked ≡ r'.asked
      other x = (O.no_read x).0 ∙ sym (O'.no_read x).0

  -- after any other frame all that was lent to the reader is as it was
  pub same_unread : (kind s ≡ 2 → ⊥) → (r.bytes ≡ r'.bytes) × (r.marks ≡ r'.marks)
  same_unread x = ((O.no_read x).1 ∙ sym (O'.no_read x).1, (O.no_read x).2 ∙ sym (O'.no_read x).2)

  pub same_marks : kind s ≡ 2 → (k : ℕ) → k < n → eqb (get_or r.marks k 0) 0 ≡ eqb (get_or r'.marks k 0) 0
  same_marks q k h = (O.read q).mark k h ∙ sym ((O'.read q).mark k h)

  pub same_bytes : kind s ≡ 2 → (k : ℕ) → k < n → six k r.bytes ≡ six k r'.bytes
  same_bytes q k h = (O.read q).bytes k h ∙ sym ((O'.read q).bytes k h)
