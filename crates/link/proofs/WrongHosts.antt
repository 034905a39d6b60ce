-- Readers that 01's last section and its traps name: each is a rig that does not meet demand 3. Assumes nothing.
use mathlib.Core.Path.{◌≡◌, refl, sym, ap, ◌∙◌}
use mathlib.Core.Bool.{true, not, ◌&&◌}
use mathlib.Core.List.{List, [], ◌∷◌, ◌++◌}
use Prim.Native.Nat.{ℕ, zero, suc, ◌+◌, ◌*◌, ◌≤◌, ◌<◌}
use native.Mathlib.Omega.{arith}
use lib.Dec.{eqb, ltb}
use lib.ListN.{length, get_or, take, replicate, length-replicate, get_or-replicate}
use Rattle.lent.specs.Bytes.{Bytes}
use Rattle.lent.specs.Memory.{over}
use Rattle.lent.specs.Refusal.{pick, first}
use Rattle.lent.proofs.Bytes.{bytes_replicate}
use Rattle.lent.proofs.Tests.{clash}
use Rattle.pec.specs.Register as Register
use Rattle.pec.specs.Register.{remainder_of, pec_of}
use Rattle.pec.specs.Group.{two_bytes, with_pec, body, sent, off_by, right}
use Rattle.pec.specs.Noise.{noisy, hit}
use Rattle.frames.specs.Size.{outside}
use Rattle.frames.specs.Kind.{data_needed, frame_length}
use Rattle.frames.specs.Commands.{rows, found, kind_of, group_of}
use Rattle.frames.specs.Places.{six, eight}
use Rattle.frames.specs.Frame.{frame_body, frame_of}
use Rattle.frames.specs.Writer.{writer_number, writer_length, writer_out}
use Rattle.registers.specs.Dten.{with_bit, with_dten}
use Rattle.registers.specs.State.{state_length, spot, pin_spot, stored, pin, shown, pin_above, Sound}
use Rattle.registers.specs.Effect.{silence, answers, answer}
use Rattle.chain.specs.Chain.{code_of, chain_number, fills, chain_reply}
use Rattle.host.specs.Marks.{silent}
use Rattle.host.specs.Reader.{reader_number}
use Rattle.link.specs.Rig.{Handed, Rig, ours}
use Rattle.link.specs.Sending.{Sending, kind, Fair}
use Rattle.link.specs.Step.{frame, arrives, serves, returns, hands, step}
use Rattle.link.specs.Promise.{lost, unread, Obeys}
use Rattle.link.specs.Demands.{Demand3}
use Rattle.link.proofs.FairFrames.{plain, command_hit, reply_hit, command_hit_lost, reply_hit_fair, reply_hit_unread, cfga_read, read_fair, read_lost_fair}

-- registers full of 1, and every pin 1: the first byte of CFGA is stored as 1 and read as 3
abbrev pub full : ℕ → List ℕ
full n = replicate (109 * n) 1

pub full_bytes : (n : ℕ) → Bytes (full n)
full_bytes n = bytes_replicate (109 * n) 1 (omega arith)

pub full_sound : (n : ℕ) → Sound n (full n)
full_sound n = record { whole = whole; pins = pins }
  where
    whole : length (full n) ≡ state_length n
    whole = unfold state_length in length-replicate {A = ℕ} (109 * n) 1

    pins : (k : ℕ) → k < n → pin k (full n) ≤ 1
    pins k h = unfold pin pin_spot in omega (arith, get_or-replicate {A = ℕ} (109 * n) (109 * k + 108) 1 0 (omega arith))

-- what the demand says of one frame on them
pub one : (R : Rig) → Demand3 R → (n : ℕ) → 1 ≤ n → n ≤ 16 → (s : Sending) → Fair n s → Obeys R n s (full n) (step R n s (full n))
one R d n a b s F = (d n a b (full n) (full_bytes n) (full_sound n) (s ∷ []) (F, tt)).0

-- ours but for the reader
abbrev with_reader : (ℕ → ℕ → List ℕ → List ℕ → List ℕ → Handed) → Rig
with_reader f = record { writer = ours.writer; chain = ours.chain; reader = f }

-- IT REFUSES EVERYTHING
abbrev refusing : Rig
refusing = with_reader (λ n code r bytes marks. record { number = 5; bytes = bytes; marks = marks })

pub refusing_fails : Demand3 refusing → ⊥
unfolding step hands
refusing_fails d =
    let e : ◌≡◌ {A = ℕ} 5 0 = ((one refusing d 1 (omega arith) (omega arith) (plain 1 2 []) (read_fair 1)).read cfga_read).asked in omega arith

-- IT MARKS EVERYTHING 1
abbrev accusing : Rig
accusing = with_reader (λ n code r bytes marks. record { number = 0; bytes = over (replicate (6 * n) 0) bytes; marks = over (replicate n 1) marks })

pub accusing_fails : Demand3 accusing → ⊥
unfolding step hands unread lost hit eight over kind_of rows found frame_length pick
accusing_fails d = clash (sym (((one accusing d 1 (omega arith) (omega arith) (plain 1 2 []) (read_fair 1)).read cfga_read).mark 0 (omega arith)))

-- IT GIVES ZEROS AND MARK 0 ALWAYS
abbrev pub blank : Rig
blank = with_reader (λ n code r bytes marks. record { number = 0; bytes = over (replicate (6 * n) 0) bytes; marks = over (replicate n 0) marks })

pub blank_fails : Demand3 blank → ⊥
unfolding step hands unread lost hit eight over kind_of group_of rows found frame_length pick six stored spot shown pin pin_spot with_dten with_bit
blank_fails d =
    let e : ◌≡◌ {A = ℕ} 0 3 =
    ap (λ (l : List ℕ). get_or l 0 0) (((one blank d 1 (omega arith) (omega arith) (plain 1 2 []) (read_fair 1)).read cfga_read).bytes 0 (omega arith)) in omega arith

-- The other two mark a device as read that the read missed.
marked_unread : (R : Rig) → Demand3 R → (n : ℕ) → 1 ≤ n → n ≤ 16 → (s : Sending) → Fair n s → kind s ≡ 2 → (k : ℕ) → k < n → unread s k ≡ true
    → get_or (step R n s (full n)).marks k 0 ≡ 0 → ⊥
marked_unread R d n a b s F q k h u e = clash (sym (ap (λ (x : ℕ). eqb x 0) e) ∙ ((one R d n a b s F).read q).mark k h ∙ ap not u)

-- IT READS A SILENT LINE as cells at 65,535: the read's command was lost on the way out, and no device answered
abbrev trusting : Rig
trusting = with_reader
    (λ n code r bytes marks.
    pick (silent (eight 0 r)) (record { number = 0; bytes = over (replicate (6 * n) 255) bytes; marks = over (replicate n 0) marks }) (ours.reader n code r bytes marks))

-- IT KEEPS THE WHOLE REPLY because more than nine in ten of its groups are right: mark 0 for every device, and the bytes as they came; else it does as ours
abbrev rights : ℕ → List ℕ → ℕ
rights zero r = 0
rights (suc k) r = rights k r + pick (right (eight k r)) 1 0

abbrev as_came : ℕ → List ℕ → List ℕ
as_came zero r = []
as_came (suc k) r = as_came k r ++ take 6 (eight k r)

abbrev counting : Rig
counting = with_reader
    (λ n code r bytes marks.
    pick (eqb (ours.reader n code r bytes marks).number 0 && ltb (9 * n) (10 * rights n r))
    (record { number = 0; bytes = over (as_came n r) bytes; marks = over (replicate n 0) marks }) (ours.reader n code r bytes marks))

-- One device, whose read was lost; and sixteen of whose reply groups fifteen are right, device 1's not. Device 1 is marked as read.
marks_read : (get_or (step trusting 1 (command_hit 1 2 []) (full 1)).marks 0 0 ≡ 0)
    × (get_or (step counting 16 (reply_hit 16 2 0) (full 16)).marks 0 0 ≡ 0)
unfolding step hands returns serves arrives frame noisy eight silent over silence answers stored spot shown pin pin_spot with_dten with_bit pin_above chain_number chain_reply fills answer reader_number first pick outside right off_by sent body code_of state_length frame_length kind_of group_of rows found writer_number writer_length writer_out data_needed frame_of frame_body with_pec two_bytes pec_of remainder_of Register.step
marks_read = (refl, refl)

pub trusting_fails : Demand3 trusting → ⊥
trusting_fails d = marked_unread trusting d 1 (omega arith) (omega arith) (command_hit 1 2 []) (read_lost_fair 1) cfga_read 0 (omega arith) missed marks_read.0
  where
    missed : unread (command_hit 1 2 []) 0 ≡ true
    missed = unfold unread in rw (command_hit_lost 1 2 [])

pub counting_fails : Demand3 counting → ⊥
counting_fails d =
    marked_unread counting d 16 (omega arith) (omega arith) (reply_hit 16 2 0) (reply_hit_fair 16 2 0 cfga_read (omega arith)) cfga_read 0 (omega arith)
    (reply_hit_unread 16 2 0 cfga_read (omega arith)) marks_read.1
