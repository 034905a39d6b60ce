-- A read over the noisy wire: a device is marked as read exactly when neither the command nor its reply group was hit, and its bytes are those that it holds.
-- A lost command is answered by silence, and silence that was not hit is never taken for a group. Assumes nothing.
use mathlib.Core.Path.{◌≡◌, refl, sym, ap, ◌∙◌}
use mathlib.Core.Bool.{Bool, true, false, not, ◌||◌}
use mathlib.Core.Logic.{⊎_elim}
use mathlib.Core.List.{List, ◌++◌}
use Prim.Native.Nat.{ℕ, ◌+◌, ◌*◌, ◌≤◌, ◌<◌}
use native.Mathlib.Omega.{arith}
use borrow.Author.Tests.{eqb-true, eqb-false, eq-eqb, ne_eqb}
use lib.Dec.{eqb}
use lib.ListN.{length, take, drop, get_or, replicate}
use Rattle.lent.specs.Bytes.{Bytes}
use Rattle.lent.specs.Memory.{over}
use Rattle.lent.specs.Refusal.{pick}
use Rattle.lent.proofs.Bytes.{bytes_part}
use Rattle.lent.proofs.Over.{length_over, take_over, get_d_over}
use Rattle.lent.proofs.Pick.{pick_true}
use Rattle.lent.proofs.Tests.{clash}
use Rattle.pec.specs.Group.{with_pec, right}
use Rattle.pec.specs.Noise.{noisy, hit, Allowed}
use Rattle.pec.proofs.Group.{length_with_pec, take_with_pec}
use Rattle.pec.proofs.Mask.{length_noisy, part_noisy, unhit_same, unhit_take}
use Rattle.pec.proofs.Noise.{found_right}
use Rattle.frames.specs.Kind.{frame_length}
use Rattle.frames.specs.Places.{six, eight}
use Rattle.frames.proofs.Lookup.{group_below}
use Rattle.frames.proofs.KindCases.{length_long}
use Rattle.frames.proofs.GroupLaws.{six_front}
use Rattle.registers.specs.State.{shown, Sound}
use Rattle.registers.specs.Effect.{silence, answers, answer, changed, report}
use Rattle.registers.proofs.StateLaws.{length_shown, bytes_shown}
use Rattle.registers.proofs.Silence.{length_silence, part_silence}
use Rattle.registers.proofs.ReadLaws.{length_answered, eight_answers}
use Rattle.host.specs.Marks.{mark_of, bytes_of}
use Rattle.host.specs.Reader.{all_bytes, all_marks, reader_bytes, reader_marks}
use Rattle.host.proofs.MarkLaws.{all_silent, mark_silent, bytes_read, bytes_none, read_if_right, right_if_read}
use Rattle.host.proofs.ReaderLaws.{length_eight, length_all_bytes, length_all_marks}
use Rattle.host.proofs.ReaderDevices.{mark_at, six_at}
use Rattle.host.proofs.ReaderNumbers.{number_0}
use Rattle.link.specs.Rig.{ours}
use Rattle.link.specs.Sending.{Sending, kind, group, Fair}
use Rattle.link.specs.Step.{frame, arrives, serves, returns, hands, step}
use Rattle.link.specs.Promise.{lost, unread, Reads}
use Rattle.link.proofs.Arrival as Arrival

-- ONE GROUP: a mark is 0 exactly where the group is right
mark_right : (g : List ℕ) → 0 < length g → eqb (mark_of g) 0 ≡ right g
mark_right g h = go (right g) refl
  where
    go : (b : Bool) → right g ≡ b → eqb (mark_of g) 0 ≡ b
    go true e = eq-eqb (mark_of g) 0 (read_if_right g h e)
    go false e = ne_eqb (mark_of g) 0 (λ m. clash (sym (right_if_read g m) ∙ e))

-- a group that our chain made, through noise
module _ (d mask : List ℕ) (ld : length d ≡ 6) (bd : Bytes d) (bm : Bytes mask) (lm : length mask ≡ 8) (allowed : Allowed mask) where
  mark_through : eqb (mark_of (noisy mask (with_pec d))) 0 ≡ not (hit mask)
  mark_through =
      mark_right (noisy mask (with_pec d)) (omega (arith, length_noisy mask (with_pec d), length_with_pec d))
      ∙ found_right d mask bd bm (omega arith) (omega arith) allowed

  bytes_through : bytes_of (noisy mask (with_pec d)) ≡ pick (hit mask) (replicate 6 0) d
  bytes_through = go (hit mask) refl
    where
      is_read : (b : Bool) → hit mask ≡ b → eqb (mark_of (noisy mask (with_pec d))) 0 ≡ not b
      is_read b e = mark_through ∙ ap not e

      go : (b : Bool) → hit mask ≡ b → bytes_of (noisy mask (with_pec d)) ≡ pick b (replicate 6 0) d
      go true e = unfold pick in bytes_none (noisy mask (with_pec d)) (eqb-false (mark_of (noisy mask (with_pec d))) 0 (is_read true e))
      go false e = unfold pick in
          (bytes_read (noisy mask (with_pec d)) (eqb-true (mark_of (noisy mask (with_pec d))) 0 (is_read false e))
          ∙ ap (take 6) (unhit_same mask (with_pec d) e)
          ∙ take_with_pec d 6 ld)

-- silence
silence_marked : mark_of (silence 8) ≡ 2
unfolding silence
silence_marked = mark_silent (replicate 8 255) (all_silent 8)

silence_bytes : bytes_of (silence 8) ≡ replicate 6 0
silence_bytes = bytes_none (silence 8) (λ e. omega (arith, silence_marked))

eight_silence : (n k : ℕ) → k < n → eight k (silence (4 + 8 * n)) ≡ silence 8
unfolding eight
eight_silence n k h = part_silence (4 + 8 * k) 8 (4 + 8 * n) (omega arith)

eight_noisy : (k : ℕ) (mask reply : List ℕ) → eight k (noisy mask reply) ≡ noisy (eight k mask) (eight k reply)
unfolding eight
eight_noisy k mask reply = part_noisy 8 (4 + 8 * k) mask reply

-- device k + 1's six bytes in lent memory that they were laid over
pub six_over : (new old : List ℕ) (k : ℕ) → 6 * k + 6 ≤ length new → six k (over new old) ≡ six k new
unfolding over
six_over new old k h = six_front k new (drop (length new) old) h

module _ (n : ℕ) (n1 : 1 ≤ n) (n16 : n ≤ 16) (s : Sending) (state : List ℕ) (F : Fair n s) (are : Bytes state) (sound : Sound n state) (q : kind s ≡ 2) where
  g18 : group s < 18
  g18 = group_below s.code

  long : frame_length n (kind s) ≡ 4 + 8 * n
  long = length_long n (kind s) (omega arith)

  -- a command that was hit on the way out: nothing was hit on the way back
  quiet_back : lost s ≡ true → hit s.back ≡ false
  unfolding lost
  quiet_back e = ⊎_elim (λ z. clash (sym e ∙ unhit_take 4 s.forth z)) (λ z. z) F.one_way

  returns_lost : lost s ≡ true → returns ours n s state ≡ silence (4 + 8 * n)
  unfolding returns
  returns_lost e =
      unhit_same s.back (take (length (frame ours n s)) (serves ours n s state).reply) (quiet_back e)
      ∙ ap (take (length (frame ours n s))) (Arrival.reply_lost n n1 n16 s state F sound e)
      ∙ take_over (silence (length (arrives ours n s))) s.reply (length (frame ours n s))
      (length_silence (length (arrives ours n s)) ∙ Arrival.arrives_long n n1 n16 s state F sound ∙ sym (Arrival.frame_long n n1 n16 s state F sound))
      ∙ ap silence (Arrival.arrives_long n n1 n16 s state F sound ∙ long)

  abbrev answered : List ℕ
  answered = silence 4 ++ answers n (group s) state

  answer_read : answer n (kind s) (group s) (arrives ours n s) state ≡ answered
  unfolding answer pick
  answer_read = rw q

  answered_long : length answered ≡ 4 + 8 * n
  answered_long = length_answered n (group s) state g18 sound.whole

  returns_good : lost s ≡ false → returns ours n s state ≡ noisy s.back answered
  unfolding returns
  returns_good e =
      ap (λ (l : List ℕ). noisy s.back (take (length (frame ours n s)) l))
      (Arrival.reply_good n n1 n16 s state F sound e ∙ ap (λ (l : List ℕ). over l s.reply) answer_read)
      ∙ ap (noisy s.back) (take_over answered s.reply (length (frame ours n s)) (answered_long ∙ sym (Arrival.frame_long n n1 n16 s state F sound ∙ long)))

  pub returns_long : length (returns ours n s state) ≡ 4 + 8 * n
  returns_long = go (lost s) refl
    where
      go : (b : Bool) → lost s ≡ b → length (returns ours n s state) ≡ 4 + 8 * n
      go true e = ap length (returns_lost e) ∙ length_silence (4 + 8 * n)
      go false e = ap length (returns_good e) ∙ length_noisy s.back answered ∙ answered_long

  -- the reader accepts it, and lays what it gives over the lent memory
  pub accepted : (hands ours n s state).number ≡ 0
  unfolding hands
  accepted =
      number_0 n s.code (length (returns ours n s state)) (length s.read) (length s.marks) (Arrival.inside n n1 n16 s state F sound) (kind s) refl F.known q
      returns_long (F.read_room q) (F.marks_room q)

  pub marks_given : (hands ours n s state).marks ≡ over (all_marks n (returns ours n s state)) s.marks
  unfolding hands reader_marks pick
  marks_given = ap (λ (a : ℕ). reader_marks a n (returns ours n s state) s.marks) accepted

  pub bytes_given : (hands ours n s state).bytes ≡ over (all_bytes n (returns ours n s state)) s.read
  unfolding hands reader_bytes pick
  bytes_given = ap (λ (a : ℕ). reader_bytes a n (returns ours n s state) s.read) accepted

  pub bytes_size : length (all_bytes n (returns ours n s state)) ≡ 6 * n
  bytes_size = length_all_bytes n (returns ours n s state) (omega (arith, returns_long))

  -- device k + 1's part of what came back
  eight_lost : lost s ≡ true → (k : ℕ) → k < n → eight k (returns ours n s state) ≡ silence 8
  eight_lost e k h = ap (eight k) (returns_lost e) ∙ eight_silence n k h

  eight_good : lost s ≡ false → (k : ℕ) → k < n → eight k (returns ours n s state) ≡ noisy (eight k s.back) (with_pec (shown k (group s) state))
  eight_good e k h =
      ap (eight k) (returns_good e) ∙ eight_noisy k s.back answered ∙ ap (noisy (eight k s.back)) (eight_answers n (group s) state g18 sound.whole k h)

  mask_bytes : (k : ℕ) → Bytes (eight k s.back)
  unfolding eight
  mask_bytes k = bytes_part 8 (4 + 8 * k) s.back F.back_bytes

  mask_long : (k : ℕ) → k < n → length (eight k s.back) ≡ 8
  mask_long k h = length_eight k s.back (omega (arith, F.back_long, long))

  own_six : (k : ℕ) → k < n → length (shown k (group s) state) ≡ 6
  own_six k h = length_shown n k (group s) state h g18 sound.whole

  mark_returned : (b : Bool) → lost s ≡ b → (k : ℕ) → k < n → eqb (mark_of (eight k (returns ours n s state))) 0 ≡ not (b || hit (eight k s.back))
  mark_returned true e k h = ap (λ (l : List ℕ). eqb (mark_of l) 0) (eight_lost e k h) ∙ ap (λ (i : ℕ). eqb i 0) silence_marked
  mark_returned false e k h =
      ap (λ (l : List ℕ). eqb (mark_of l) 0) (eight_good e k h)
      ∙ mark_through (shown k (group s) state) (eight k s.back) (own_six k h) (bytes_shown k (group s) state (sound.pins k h) are) (mask_bytes k) (mask_long k h) (F.replies q k h)

  bytes_returned : (b : Bool) → lost s ≡ b → (k : ℕ) → k < n
      → bytes_of (eight k (returns ours n s state)) ≡ pick (b || hit (eight k s.back)) (replicate 6 0) (shown k (group s) state)
  bytes_returned true e k h = ap bytes_of (eight_lost e k h) ∙ silence_bytes ∙ sym (pick_true true (replicate 6 0) (shown k (group s) state) refl)
  bytes_returned false e k h =
      ap bytes_of (eight_good e k h)
      ∙ bytes_through (shown k (group s) state) (eight k s.back) (own_six k h) (bytes_shown k (group s) state (sound.pins k h) are) (mask_bytes k) (mask_long k h) (F.replies q k h)

  mark : (k : ℕ) → k < n → eqb (get_or (step ours n s state).marks k 0) 0 ≡ not (unread s k)
  unfolding step unread
  mark k h =
      ap (λ (l : List ℕ). eqb (get_or l k 0) 0) marks_given
      ∙ ap (λ (i : ℕ). eqb i 0)
      (get_d_over (all_marks n (returns ours n s state)) s.marks k (omega (arith, length_all_marks n (returns ours n s state))) ∙ mark_at n k (returns ours n s state) h)
      ∙ mark_returned (lost s) refl k h

  bytes : (k : ℕ) → k < n → six k (step ours n s state).bytes ≡ pick (unread s k) (replicate 6 0) (shown k (group s) state)
  unfolding step unread
  bytes k h =
      ap (six k) bytes_given
      ∙ six_over (all_bytes n (returns ours n s state)) s.read k (omega (arith, bytes_size))
      ∙ six_at n k (returns ours n s state) h (omega (arith, returns_long))
      ∙ bytes_returned (lost s) refl k h

  pub kept : (step ours n s state).registers ≡ state
  kept = go (lost s) refl
    where
      go : (b : Bool) → lost s ≡ b → (step ours n s state).registers ≡ state
      go true e = Arrival.state_lost n n1 n16 s state F sound e
      go false e = Arrival.state_good n n1 n16 s state F sound e ∙ (unfold changed pick in rw q)

  word : (b : Bool) → lost s ≡ b → (step ours n s state).word ≡ 0
  unfolding report pick
  word true e = Arrival.word_lost n n1 n16 s state F sound e
  word false e = Arrival.word_good n n1 n16 s state F sound e ∙ rw q

  asked : (step ours n s state).asked ≡ 0
  unfolding step
  asked = accepted

  bytes_long : length (step ours n s state).bytes ≡ length s.read
  unfolding step
  bytes_long = ap length bytes_given ∙ length_over (all_bytes n (returns ours n s state)) s.read (omega (arith, bytes_size, F.read_room q))

  marks_long : length (step ours n s state).marks ≡ length s.marks
  unfolding step
  marks_long =
      ap length marks_given ∙ length_over (all_marks n (returns ours n s state)) s.marks (omega (arith, length_all_marks n (returns ours n s state), F.marks_room q))

  pub reads : Reads n s state (step ours n s state)
  reads = record { kept = kept; word = word (lost s) refl; asked = asked; mark = mark; bytes = bytes; bytes_long = bytes_long; marks_long = marks_long }
