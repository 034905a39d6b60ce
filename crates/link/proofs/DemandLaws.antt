-- THE DEMANDS, met by our rig: demand 3 by its frames one after the other, demand 2 as the quiet case of it. Assumes nothing.
use mathlib.Core.Path.{◌≡◌, sym, ap, ap₂, ◌∙◌}
use mathlib.Core.Bool.{Bool, false, not, ◌||◌}
use mathlib.Core.List.{List, [], ◌∷◌}
use Prim.Native.Nat.{ℕ, ◌+◌, ◌*◌, ◌-◌, ◌^◌, ◌≤◌, ◌<◌}
use native.Mathlib.Omega.{arith}
use borrow.Author.Tests.{eqb-true}
use lib.ListN.{length, get_or, replicate, length-replicate, get_or-replicate}
use lib.Seq.{ext_get_or}
use Rattle.lent.specs.Bytes.{Bytes}
use Rattle.lent.specs.Refusal.{pick}
use Rattle.lent.specs.Memory.{over}
use Rattle.lent.proofs.BitsWhere.{bits_all}
use Rattle.lent.proofs.Over.{get_d_over}
use Rattle.lent.proofs.Pick.{pick_false, pick_not}
use Rattle.pec.specs.Group.{right}
use Rattle.pec.specs.Noise.{hit}
use Rattle.pec.proofs.Mask.{unhit_take, unhit_part}
use Rattle.frames.specs.Kind.{data_needed, frame_length}
use Rattle.frames.specs.Places.{six, wire, eight}
use Rattle.frames.proofs.Lookup.{group_below}
use Rattle.frames.proofs.Sizes.{at_least, at_most}
use Rattle.frames.proofs.FrameParts as FrameParts
use Rattle.registers.specs.Dten.{with_dten}
use Rattle.registers.specs.State.{pin, shown, Sound}
use Rattle.registers.specs.Effect.{stored_bits}
use Rattle.host.specs.Reader.{all_bytes, all_marks}
use Rattle.host.proofs.ReaderLaws.{length_all_marks}
use Rattle.link.specs.Rig.{ours}
use Rattle.link.specs.Sending.{Sending, kind, group, Fair}
use Rattle.link.specs.Step.{arrives, returns, step}
use Rattle.link.specs.Promise.{lost, missed, unread, sweeps, Obeys}
use Rattle.link.specs.Demands.{Demand3, Quiet, held, read_back, Undisturbed, after, Demand2}
use Rattle.link.proofs.Held.{six_ext, length_held, six_held, length_read_back, six_read_back, reads_back}
use Rattle.link.proofs.WriteFrame.{bytes_long, word_write, wire_right}
use Rattle.link.proofs.ReadFrame.{marks_given, bytes_given, bytes_size, six_over}
use Rattle.link.proofs.OneFrame.{obeys, are_bytes, stays_sound}

pub demand3 : Demand3 ours
demand3 n a b state are sound [] fair = tt
demand3 n a b state are sound (s ∷ ss) fair = (
  obeys n a b s state fair.0 are sound,
  demand3 n a b (step ours n s state).registers (are_bytes n a b s state fair.0 are sound) (stays_sound n a b s state fair.0 are sound) ss fair.1,
)

-- a quiet frame: nothing of it was hit
quiet_lost : (s : Sending) → hit s.forth ≡ false → lost s ≡ false
unfolding lost
quiet_lost s e = unhit_take 4 s.forth e

quiet_wire : (n : ℕ) (s : Sending) (k : ℕ) → hit s.forth ≡ false → hit (wire n k s.forth) ≡ false
unfolding wire
quiet_wire n s k e = unhit_part 8 (4 + 8 * (n - 1 - k)) s.forth e

quiet_missed : (n : ℕ) (s : Sending) (k : ℕ) → hit s.forth ≡ false → missed n s k ≡ false
unfolding missed
quiet_missed n s k e = ap₂ (λ (a b : Bool). a || b) (quiet_lost s e) (quiet_wire n s k e)

quiet_unread : (s : Sending) (k : ℕ) → hit s.forth ≡ false → hit s.back ≡ false → unread s k ≡ false
unfolding unread eight
quiet_unread s k e f = ap₂ (λ (a b : Bool). a || b) (quiet_lost s e) (unhit_part 8 (4 + 8 * k) s.back f)

module _ (n : ℕ) (a : 1 ≤ n) (b : n ≤ 16) (state : List ℕ) (are : Bytes state) (sound : Sound n state) (s : Sending) (F : Fair n s) (quiet : Quiet s) where
  O : Obeys ours n s state (step ours n s state)
  O = obeys n a b s state F are sound

  good : lost s ≡ false
  good = quiet_lost s quiet.0

  g18 : group s < 18
  g18 = group_below s.code

  word_full : kind s ≡ 1 → (step ours n s state).word ≡ 2 ^ n - 1
  unfolding stored_bits
  word_full w =
      word_write n a b s state F sound w good
      ∙ bits_all (λ (i : ℕ). right (wire n i (arrives ours n s))) n (λ k h. wire_right n a b s state F sound w k h ∙ ap not (quiet_wire n s k quiet.0))

  stores : kind s ≡ 1 → held n (group s) (step ours n s state).registers ≡ read_back n (group s) state s.bytes
  stores w =
      let long = bytes_long n a b s state F sound w in
      six_ext n (held n (group s) (step ours n s state).registers) (read_back n (group s) state s.bytes)
      (length_held n (group s) (step ours n s state).registers g18 O.size n (omega arith)) (length_read_back n (group s) state s.bytes long)
      (λ k h. six_held n (group s) (step ours n s state).registers g18 O.size n k (omega arith) h
      ∙ (O.write w).own k h
      ∙ pick_false (missed n s k) (shown k (group s) state) (with_dten (group s) (pin k state) (six k s.bytes)) (quiet_missed n s k quiet.0)
      ∙ sym (six_read_back n (group s) state s.bytes long k h))

  sets : kind s ≡ 3 → (k h : ℕ) → k < n → h < 18 → shown k h (step ours n s state).registers ≡ pick (sweeps s.code h) (replicate 6 255) (shown k h state)
  sets c k h lk lh =
      (O.clear c).all k h lk lh
      ∙ ap (λ (x : Bool). pick (x || not (sweeps s.code h)) (shown k h state) (replicate 6 255)) good
      ∙ pick_not (sweeps s.code h) (shown k h state) (replicate 6 255)

  module _ (q : kind s ≡ 2) where
    abbrev back : List ℕ
    back = returns ours n s state

    one : (k : ℕ) → k < n → six k (all_bytes n back) ≡ six k (held n (group s) state)
    unfolding step
    one k h =
        sym (six_over (all_bytes n back) s.read k (omega (arith, bytes_size n a b s state F are sound q)))
        ∙ ap (six k) (sym (bytes_given n a b s state F are sound q))
        ∙ (O.read q).bytes k h
        ∙ pick_false (unread s k) (replicate 6 0) (shown k (group s) state) (quiet_unread s k quiet.0 quiet.1)
        ∙ sym (six_held n (group s) state g18 sound.whole n k (omega arith) h)

    gives : (step ours n s state).bytes ≡ over (held n (group s) state) s.read
    unfolding step
    gives =
        bytes_given n a b s state F are sound q
        ∙ ap (λ (x : List ℕ). over x s.read)
        (six_ext n (all_bytes n back) (held n (group s) state) (bytes_size n a b s state F are sound q) (length_held n (group s) state g18 sound.whole n (omega arith)) one)

    zero_mark : (k : ℕ) → k < n → get_or (all_marks n back) k 0 ≡ 0
    unfolding step
    zero_mark k h =
        sym (get_d_over (all_marks n back) s.marks k (omega (arith, length_all_marks n back)))
        ∙ ap (λ (x : List ℕ). get_or x k 0) (sym (marks_given n a b s state F are sound q))
        ∙ eqb-true (get_or (step ours n s state).marks k 0) 0 ((O.read q).mark k h ∙ ap not (quiet_unread s k quiet.0 quiet.1))

    marks : (step ours n s state).marks ≡ over (replicate n 0) s.marks
    unfolding step
    marks =
        marks_given n a b s state F are sound q
        ∙ ap (λ (x : List ℕ). over x s.marks)
        (ext_get_or 0 (all_marks n back) (replicate n 0) (length_all_marks n back ∙ sym (length-replicate n 0))
        (λ i h. zero_mark i (omega (arith, length_all_marks n back)) ∙ sym (get_or-replicate n i 0 0 (omega (arith, length_all_marks n back)))))

  undisturbed : Undisturbed n s state (step ours n s state)
  undisturbed = record {
    made = O.made;
    number = O.number ∙ pick_false (lost s) 4 0 good;
    size = O.size;
    pins = O.pins;
    dten_stays = O.dten_stays;
    write = λ w. (stores w, (O.write w).others, word_full w);
    clear = λ c. (sets c, (O.clear c).word ∙ pick_false (lost s) 0 (2 ^ n - 1) good);
    conversion = λ c. ((O.conversion c).unchanged, (O.conversion c).word ∙ pick_false (lost s) 0 (2 ^ n - 1) good);
    read = λ q. (gives q, marks q, (O.read q).kept, (O.read q).word, (O.read q).asked);
    no_read = O.no_read;
  }

pub demand2 : Demand2 ours
demand2 n a b state are sound = (
  λ s F quiet. undisturbed n a b state are sound s F quiet,
  λ w r Fw Fr qw qr kw kr g.
      let Ow = obeys n a b w state Fw are sound in
      let uw = undisturbed n a b state are sound w Fw qw in
      let ur = undisturbed n a b (after ours n w state) Ow.are_bytes (stays_sound n a b w state Fw are sound) r Fr qr in
      let back : (step ours n r (after ours n w state)).bytes ≡ over (read_back n (group w) state w.bytes) r.read =
      (ur.read kr).0 ∙ ap (λ (x : List ℕ). over x r.read) (ap (λ (x : ℕ). held n x (after ours n w state)) (sym g) ∙ (uw.write kw).0) in (
        back,
        (λ other. back ∙ ap (λ (x : List ℕ). over x r.read) (reads_back n (group w) state w.bytes (bytes_long n a b w state Fw sound kw) other)),
        (ur.read kr).1,
      ),
)

-- WHAT OUR WRITER ACCEPTS is just such a frame: a command of the table, with its data and room, for 1 to 16 devices. (That it makes one is Obeys.made.)
pub only_made : (n : ℕ) (s : Sending) → (ours.writer n s.code s.bytes s.out).number ≡ 0
    → (1 ≤ n) × (n ≤ 16) × (kind s ≡ 0 → ⊥) × (length s.bytes ≡ data_needed n (kind s)) × (frame_length n (kind s) ≤ length s.out)
only_made n s e =
    let m = FrameParts.made n s.code (length s.bytes) (length s.out) e in
    (at_least n m.size, at_most n m.size, m.known, m.needed, m.room)
