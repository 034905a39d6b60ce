-- One fair frame: what happens is what is promised. Assumes nothing.
use mathlib.Core.Path.{◌≡◌, refl, sym, ap, ap₂, ◌∙◌, subst, fun_ext}
use mathlib.Core.Bool.{Bool, true, false}
use mathlib.Core.Logic.{◌⊎◌, inl, inr}
use mathlib.Core.List.{List}
use Prim.Native.Nat.{ℕ, zero, suc, ◌≤◌, ◌<◌}
use native.Mathlib.Omega.{arith}
use lib.ListN.{length, take, replicate}
use Rattle.lent.specs.Bytes.{Bytes}
use Rattle.lent.specs.Refusal.{pick}
use Rattle.pec.specs.Noise.{noisy, hit}
use Rattle.pec.proofs.Mask.{bytes_noisy, unhit_same, unhit_zeros}
use Rattle.frames.specs.Kind.{frame_length}
use Rattle.frames.proofs.Lookup.{kind_below, group_below}
use Rattle.frames.proofs.FrameParts.{bytes_frame}
use Rattle.registers.specs.Dten.{dten}
use Rattle.registers.specs.State.{state_length, stored, pin, Sound}
use Rattle.registers.proofs.StateLaws.{still_sound}
use Rattle.registers.proofs.ClearLaws.{clear_room, clear_high}
use Rattle.registers.proofs.Obeyed.{length_changed, pin_changed, bit_changed, bytes_changed}
use Rattle.host.specs.Reader.{reader_bytes, reader_marks}
use Rattle.host.proofs.ReaderNumbers.{number_7}
use Rattle.link.specs.Rig.{Served, Handed, ours}
use Rattle.link.specs.Sending.{Sending, kind, group, Fair}
use Rattle.link.specs.Step.{frame, arrives, serves, returns, hands, Seen, gathered, step, calm}
use Rattle.link.specs.Promise.{lost, Obeys}
use Rattle.link.proofs.Arrival as Arrival
use Rattle.link.proofs.WriteFrame.{writes}
use Rattle.link.proofs.ReadFrame.{reads}
use Rattle.link.proofs.ClearFrame.{clears}
use Rattle.link.proofs.ConversionFrame.{converts}

-- the step over what the two ways do to bytes
step_by : ℕ → Sending → List ℕ → (List ℕ → List ℕ) → (List ℕ → List ℕ) → Seen
step_by n s state forth back =
    let c : Served = ours.chain n (forth (frame ours n s)) state s.reply in
    let h : Handed = ours.reader n s.code (back (take (length (frame ours n s)) c.reply)) s.read s.marks in
    gathered (ours.writer n s.code s.bytes s.out) c h

same_as_zeros : (m : List ℕ) → hit m ≡ false → noisy m ≡ noisy (replicate (length m) 0)
same_as_zeros m e = fun_ext (λ x. unhit_same m x e ∙ sym (unhit_same (replicate (length m) 0) x (unhit_zeros (length m))))

-- A frame not hit is handled as if noise had never come. Nothing else is asked of it.
unhit : (n : ℕ) (s : Sending) (state : List ℕ) → hit s.forth ≡ false → hit s.back ≡ false → step ours n s state ≡ step ours n (calm s) state
unfolding step step_by arrives serves returns hands calm frame
unhit n s state p q = ap₂ (step_by n s state) (same_as_zeros s.forth p) (same_as_zeros s.back q)

-- a known kind is one of four
four : (k : ℕ) → k < 5 → (k ≡ 0 → ⊥) → (k ≡ 1) ⊎ ((k ≡ 2) ⊎ ((k ≡ 3) ⊎ (k ≡ 4)))
four zero h z = absurd (z refl)
four (suc zero) h z = inl refl
four (suc (suc zero)) h z = inr (inl refl)
four (suc (suc (suc zero))) h z = inr (inr (inl refl))
four (suc (suc (suc (suc zero)))) h z = inr (inr (inr refl))
four (suc (suc (suc (suc (suc k))))) h z = absurd (omega arith)

module _ (n : ℕ) (n1 : 1 ≤ n) (n16 : n ≤ 16) (s : Sending) (state : List ℕ) (F : Fair n s) (are : Bytes state) (sound : Sound n state) where
  kinds : (kind s ≡ 1) ⊎ ((kind s ≡ 2) ⊎ ((kind s ≡ 3) ⊎ (kind s ≡ 4)))
  kinds = four (kind s) (kind_below s.code) F.known

  made : (step ours n s state).made ≡ 0
  unfolding step
  made = Arrival.made n n1 n16 s state F sound

  number : (b : Bool) → lost s ≡ b → (step ours n s state).number ≡ pick b 4 0
  unfolding step pick
  number true e = Arrival.number_lost n n1 n16 s state F sound e
  number false e = Arrival.number_good n n1 n16 s state F sound e

  no_read : (kind s ≡ 2 → ⊥) → ((step ours n s state).asked ≡ 7) × ((step ours n s state).bytes ≡ s.read) × ((step ours n s state).marks ≡ s.marks)
  unfolding step hands reader_bytes reader_marks pick
  no_read other =
      let e : (hands ours n s state).number ≡ 7 =
      number_7 n s.code (length (returns ours n s state)) (length s.read) (length s.marks) (Arrival.inside n n1 n16 s state F sound) (kind s) refl F.known other in
      (e, ap (λ (a : ℕ). reader_bytes a n (returns ours n s state) s.read) e, ap (λ (a : ℕ). reader_marks a n (returns ours n s state) s.marks) e)

  -- the length, the pins and the stored DTEN stay
  g18 : group s < 18
  g18 = group_below s.code

  long : length (arrives ours n s) ≡ frame_length n (kind s)
  long = Arrival.arrives_long n n1 n16 s state F sound

  size : length (step ours n s state).registers ≡ state_length n
  size =
      Arrival.holds n n1 n16 s state F sound (λ (r : List ℕ). length r ≡ state_length n) sound.whole
      (length_changed n (kind s) (group s) (arrives ours n s) state g18 long (clear_room s.code) sound.whole)

  pins : (k : ℕ) → k < n → pin k (step ours n s state).registers ≡ pin k state
  pins k h =
      Arrival.holds n n1 n16 s state F sound (λ (r : List ℕ). pin k r ≡ pin k state) refl
      (pin_changed n (kind s) (group s) (arrives ours n s) state g18 long (clear_room s.code) sound.whole k)

  dten_stays : (k : ℕ) → k < n → dten (stored k 0 (step ours n s state).registers) ≡ dten (stored k 0 state)
  dten_stays k h =
      Arrival.holds n n1 n16 s state F sound (λ (r : List ℕ). dten (stored k 0 r) ≡ dten (stored k 0 state)) refl
      (bit_changed n (kind s) (group s) (arrives ours n s) state g18 long (clear_room s.code) sound.whole (clear_high s.code) k h)

  pub stays_sound : Sound n (step ours n s state).registers
  stays_sound = still_sound n state (step ours n s state).registers sound size pins

  arrives_bytes : Bytes (arrives ours n s)
  unfolding arrives
  arrives_bytes =
      bytes_noisy s.forth (frame ours n s) F.forth_bytes
      (subst Bytes (sym (Arrival.frame_is n n1 n16 s state F sound)) (bytes_frame n s.code s.bytes F.known F.are_bytes))

  pub are_bytes : Bytes (step ours n s state).registers
  are_bytes = Arrival.holds n n1 n16 s state F sound Bytes are (bytes_changed n (kind s) (group s) (arrives ours n s) state arrives_bytes are)

  pub obeys : Obeys ours n s state (step ours n s state)
  obeys = record {
    made = made;
    number = number (lost s) refl;
    size = size;
    are_bytes = are_bytes;
    pins = pins;
    dten_stays = dten_stays;
    kinds = kinds;
    write = λ w. writes n n1 n16 s state F sound w;
    read = λ q. reads n n1 n16 s state F are sound q;
    clear = λ c. clears n n1 n16 s state F sound c;
    conversion = λ c. converts n n1 n16 s state F sound c;
    no_read = no_read;
    unhit = unhit n s state;
  }
