-- A write over the noisy wire: each device takes its bytes exactly when neither the command nor its own group was hit. Assumes nothing.
use mathlib.Core.Path.{◌≡◌, refl, sym, ap, ◌∙◌, subst}
use mathlib.Core.Bool.{Bool, true, false, not, ◌||◌}
use mathlib.Core.List.{List}
use Prim.Native.Nat.{ℕ, ◌+◌, ◌*◌, ◌-◌, ◌/◌, ◌%◌, ◌^◌, ◌≤◌, ◌<◌}
use native.Mathlib.Omega.{arith}
use lib.ListN.{length, take, drop}
use lib.Pow.{pow_pos}
use Rattle.lent.specs.Bytes.{Bytes}
use Rattle.lent.specs.Refusal.{pick}
use Rattle.lent.proofs.Bytes.{bytes_part}
use Rattle.lent.proofs.BitsWhere.{bit_zero, bits_below, bits_at}
use Rattle.lent.proofs.Pick.{pick_not}
use Rattle.pec.specs.Group.{with_pec, right}
use Rattle.pec.specs.Noise.{noisy, hit}
use Rattle.pec.proofs.Group.{take_with_pec}
use Rattle.pec.proofs.Mask.{part_noisy, unhit_same}
use Rattle.pec.proofs.Noise.{found_right}
use Rattle.frames.specs.Places.{six, wire}
use Rattle.frames.proofs.Lookup.{group_below}
use Rattle.frames.proofs.KindCases.{needs_data, length_long}
use Rattle.frames.proofs.GroupLaws.{length_six}
use Rattle.frames.proofs.FrameParts.{wire_frame, bytes_six}
use Rattle.registers.specs.Dten.{with_dten}
use Rattle.registers.specs.State.{pin, shown, Sound}
use Rattle.registers.specs.Effect.{written, stored_bits, changed, report}
use Rattle.registers.proofs.StateLaws.{shown_alike}
use Rattle.registers.proofs.WriteLaws.{length_wire, written_other, written_pin, written_shown}
use Rattle.link.specs.Rig.{ours}
use Rattle.link.specs.Sending.{Sending, kind, group, Fair}
use Rattle.link.specs.Step.{frame, arrives, step}
use Rattle.link.specs.Promise.{lost, missed, Writes}
use Rattle.link.proofs.Arrival as Arrival

module _ (n : ℕ) (n1 : 1 ≤ n) (n16 : n ≤ 16) (s : Sending) (state : List ℕ) (F : Fair n s) (sound : Sound n state) (w : kind s ≡ 1) where
  g18 : group s < 18
  g18 = group_below s.code

  long_kind : kind s ≤ 2
  long_kind = omega arith

  arrives_long : length (arrives ours n s) ≡ 4 + 8 * n
  arrives_long = Arrival.arrives_long n n1 n16 s state F sound ∙ length_long n (kind s) long_kind

  pub bytes_long : length s.bytes ≡ 6 * n
  bytes_long = F.needed ∙ needs_data n (kind s) w

  -- device k + 1's group on the wire, through the noise
  wire_arrives : (k : ℕ) → k < n → wire n k (arrives ours n s) ≡ noisy (wire n k s.forth) (with_pec (six k s.bytes))
  unfolding arrives wire
  wire_arrives k h =
      part_noisy 8 (4 + 8 * (n - 1 - k)) s.forth (frame ours n s)
      ∙ ap (noisy (take 8 (drop (4 + 8 * (n - 1 - k)) s.forth)))
      (ap (λ (l : List ℕ). take 8 (drop (4 + 8 * (n - 1 - k)) l)) (Arrival.frame_is n n1 n16 s state F sound) ∙ wire_frame n k s.code s.bytes w h bytes_long)

  own_six : (k : ℕ) → k < n → length (six k s.bytes) ≡ 6
  own_six k h = length_six k s.bytes (omega (arith, bytes_long))

  mask_bytes : (k : ℕ) → Bytes (wire n k s.forth)
  unfolding wire
  mask_bytes k = bytes_part 8 (4 + 8 * (n - 1 - k)) s.forth F.forth_bytes

  mask_long : (k : ℕ) → k < n → length (wire n k s.forth) ≡ 8
  mask_long k h = length_wire n k s.forth h (F.forth_long ∙ length_long n (kind s) long_kind)

  pub wire_right : (k : ℕ) → k < n → right (wire n k (arrives ours n s)) ≡ not (hit (wire n k s.forth))
  wire_right k h =
      ap right (wire_arrives k h)
      ∙ found_right (six k s.bytes) (wire n k s.forth) (bytes_six k s.bytes F.are_bytes) (mask_bytes k) (omega (arith, mask_long k h, own_six k h))
      (omega (arith, own_six k h)) (F.groups w k h)

  new_bytes : (k : ℕ) → k < n → hit (wire n k s.forth) ≡ false → take 6 (wire n k (arrives ours n s)) ≡ six k s.bytes
  new_bytes k h e =
      ap (take 6) (wire_arrives k h ∙ unhit_same (wire n k s.forth) (with_pec (six k s.bytes)) e) ∙ take_with_pec (six k s.bytes) 6 (own_six k h)

  -- registers and word where the command was not hit
  state_write : lost s ≡ false → (step ours n s state).registers ≡ written n n (group s) (arrives ours n s) state
  unfolding changed pick
  state_write e = Arrival.state_good n n1 n16 s state F sound e ∙ rw w

  pub word_write : lost s ≡ false → (step ours n s state).word ≡ stored_bits n n (arrives ours n s)
  unfolding report pick
  word_write e = Arrival.word_good n n1 n16 s state F sound e ∙ rw w

  own : (b : Bool) → lost s ≡ b → (k : ℕ) → k < n
      → shown k (group s) (step ours n s state).registers
      ≡ pick (b || hit (wire n k s.forth)) (shown k (group s) state) (with_dten (group s) (pin k state) (six k s.bytes))
  unfolding pick
  own true e k h = ap (shown k (group s)) (Arrival.state_lost n n1 n16 s state F sound e)
  own false e k h =
      ap (shown k (group s)) (state_write e)
      ∙ written_shown n (group s) (arrives ours n s) state g18 arrives_long sound.whole k h
      ∙ ap (λ (b : Bool). pick b (with_dten (group s) (pin k state) (take 6 (wire n k (arrives ours n s)))) (shown k (group s) state)) (wire_right k h)
      ∙ by_hit (hit (wire n k s.forth)) refl
    where
      by_hit : (b : Bool) → hit (wire n k s.forth) ≡ b
          → pick (not b) (with_dten (group s) (pin k state) (take 6 (wire n k (arrives ours n s)))) (shown k (group s) state)
          ≡ pick b (shown k (group s) state) (with_dten (group s) (pin k state) (six k s.bytes))
      by_hit true q = refl
      by_hit false q = ap (with_dten (group s) (pin k state)) (new_bytes k h q)

  others : (b : Bool) → lost s ≡ b → (k h : ℕ) → k < n → h < 18 → (h ≡ group s → ⊥) → shown k h (step ours n s state).registers ≡ shown k h state
  others true e k h lk lh ne = ap (shown k h) (Arrival.state_lost n n1 n16 s state F sound e)
  others false e k h lk lh ne =
      ap (shown k h) (state_write e)
      ∙ shown_alike k h (written n n (group s) (arrives ours n s) state) state
      (written_other n (group s) (arrives ours n s) state g18 arrives_long sound.whole n k h (omega arith) lh (λ x y. ne y))
      (written_pin n (group s) (arrives ours n s) state g18 arrives_long sound.whole n k (omega arith))

  word : (b : Bool) → lost s ≡ b → (k : ℕ) → k < n → (step ours n s state).word / 2 ^ k % 2 ≡ pick (b || hit (wire n k s.forth)) 0 1
  unfolding pick stored_bits
  word true e k h = ap (λ (x : ℕ). x / 2 ^ k % 2) (Arrival.word_lost n n1 n16 s state F sound e) ∙ bit_zero k
  word false e k h =
      ap (λ (x : ℕ). x / 2 ^ k % 2) (word_write e)
      ∙ bits_at (λ (i : ℕ). right (wire n i (arrives ours n s))) n k h
      ∙ ap (λ (b : Bool). pick b 1 0) (wire_right k h)
      ∙ pick_not (hit (wire n k s.forth)) 1 0

  no_more : (b : Bool) → lost s ≡ b → (step ours n s state).word < 2 ^ n
  unfolding stored_bits
  no_more true e = subst (λ (x : ℕ). x < 2 ^ n) (sym (Arrival.word_lost n n1 n16 s state F sound e)) (pow_pos n)
  no_more false e = subst (λ (x : ℕ). x < 2 ^ n) (sym (word_write e)) (bits_below (λ (i : ℕ). right (wire n i (arrives ours n s))) n)

  pub writes : Writes n s state (step ours n s state)
  unfolding missed
  writes = record {
    own = λ k h. own (lost s) refl k h;
    others = λ k h lk lh ne. others (lost s) refl k h lk lh ne;
    word = λ k h. word (lost s) refl k h;
    no_more = no_more (lost s) refl;
  }
