-- The parts of a frame that the writer made: its length, its command group, each device's group on the wire. Assumes nothing.
use mathlib.Core.Path.{◌≡◌, refl, sym, ap, ◌∙◌}
use mathlib.Core.Bool.{Bool, true, false, not}
use mathlib.Core.List.{List, ◌++◌, append-nil}
use Prim.Native.Nat.{ℕ, zero, suc, ◌+◌, ◌*◌, ◌-◌, ◌≤◌, ◌<◌}
use native.Mathlib.Nat.{add-zero}
use native.Mathlib.Omega.{arith}
use borrow.Author.Tests.{eqb-true, eqb-false, ltb-false, not-false, eq-eqb, ne_eqb, le-ltb}
use lib.Dec.{eqb, ltb}
use lib.ListN.{length, take, drop, replicate, length-append, length-replicate}
use lib.Seq.{take_at, drop_at, drop-drop}
use Rattle.lent.specs.Bytes.{Bytes}
use Rattle.lent.specs.Memory.{over}
use Rattle.lent.specs.Refusal.{pick, first}
use Rattle.lent.proofs.Bytes.{bytes_append, bytes_part, bytes_replicate, bytes_pick}
use Rattle.lent.proofs.First.{none_first}
use Rattle.lent.proofs.Pick.{pick_true, pick_false}
use Rattle.pec.specs.Group.{two_bytes, with_pec}
use Rattle.pec.proofs.Group.{length_with_pec, bytes_two, bytes_with_pec}
use Rattle.frames.specs.Size.{outside}
use Rattle.frames.specs.Kind.{is_write, is_read, data_needed, frame_length}
use Rattle.frames.specs.Commands.{kind_of}
use Rattle.frames.specs.Places.{six, wire}
use Rattle.frames.specs.Frame.{write_groups, frame_body, frame_of}
use Rattle.frames.specs.Writer.{writer_number, writer_length, writer_out, Wrote}
use Rattle.lent.specs.declared.Written.{Written}
use Rattle.frames.proofs.Lookup.{known_below}
use Rattle.frames.proofs.GroupLaws.{length_six, length_write_groups}
use Rattle.frames.proofs.KindCases.{length_short, body_short}
use Rattle.frames.proofs.FrameLaws.{length_command}

-- what a number 0 of the writer tells, and what gives it
pub record Made (n code bytes_len out_len : ℕ) : Type 0 where
  pub size : outside n ≡ false
  pub known : kind_of code ≡ 0 → ⊥
  pub needed : bytes_len ≡ data_needed n (kind_of code)
  pub room : frame_length n (kind_of code) ≤ out_len

pub made : (n code d o : ℕ) → writer_number n code d o ≡ 0 → Made n code d o
unfolding writer_number
made n code d o e =
    let kind = kind_of code in
    let t1 = none_first (outside n) 0 _ e in
    let t2 = none_first (eqb kind 0) 1 _ t1.1 in
    let t3 = none_first (not (eqb d (data_needed n kind))) 2 _ t2.1 in
    let t5 = none_first (ltb o (frame_length n kind)) 4 _ t3.1 in
    record {
      size = t1.0;
      known = eqb-false kind 0 t2.0;
      needed = eqb-true d (data_needed n kind) (not-false (eqb d (data_needed n kind)) t3.0);
      room = ltb-false o (frame_length n kind) t5.0;
    }

pub makes : (n code d o : ℕ) → Made n code d o → writer_number n code d o ≡ 0
unfolding writer_number first pick
makes n code d o m = simp (m.size, ne_eqb _ _ m.known, eq-eqb _ _ m.needed, le-ltb _ _ m.room)

-- the frame is as long as its kind says
module _ (n code : ℕ) (bytes : List ℕ) where
  length_by : (kind : ℕ) → (kind ≡ 0 → ⊥) → length bytes ≡ data_needed n kind → length (with_pec (two_bytes code) ++ frame_body n kind bytes) ≡ frame_length n kind
  unfolding frame_body frame_length data_needed pick
  length_by zero z e = absurd (z refl)
  length_by (suc zero) z e =
      length-append (with_pec (two_bytes code)) (write_groups n bytes) ∙ omega (arith, length_command code, length_write_groups n bytes (omega arith))
  length_by (suc (suc zero)) z e =
      length-append (with_pec (two_bytes code)) (replicate (8 * n) 255) ∙ omega (arith, length_command code, length-replicate {A = ℕ} (8 * n) 255)
  length_by (suc (suc (suc k))) z e =
      ap (λ (l : List ℕ). length (with_pec (two_bytes code) ++ l)) (body_short n (suc (suc (suc k))) bytes (omega arith))
      ∙ ap length (append-nil (with_pec (two_bytes code)))
      ∙ length_command code
      ∙ sym (length_short n (suc (suc (suc k))) (omega arith))

  pub length_frame : (kind_of code ≡ 0 → ⊥) → length bytes ≡ data_needed n (kind_of code) → length (frame_of n code bytes) ≡ frame_length n (kind_of code)
  unfolding frame_of
  length_frame known needed = length_by (kind_of code) known needed

  -- as many bytes of the output as the writer says are the frame
  pub frame_out : (out : List ℕ) (number : ℕ) → number ≡ 0 → length (frame_of n code bytes) ≡ frame_length n (kind_of code)
      → take (writer_length number n code) (writer_out number n code bytes out) ≡ frame_of n code bytes
  unfolding writer_length writer_out pick over
  frame_out out number e l = rw e (take_at (frame_of n code bytes) (drop (length (frame_of n code bytes)) out) (frame_length n (kind_of code)) l)

  pub take_frame : take 4 (frame_of n code bytes) ≡ with_pec (two_bytes code)
  unfolding frame_of
  take_frame = take_at (with_pec (two_bytes code)) (frame_body n (kind_of code) bytes) 4 (length_command code)

groups_from : (j n k : ℕ) (bytes : List ℕ) → n ≡ suc k + j → 6 * n ≤ length bytes → drop (8 * j) (write_groups n bytes) ≡ write_groups (suc k) bytes
unfolding write_groups
groups_from zero n k bytes e h = ap (λ (x : ℕ). write_groups x bytes) (e ∙ add-zero (suc k))
groups_from (suc j) zero k bytes e h = absurd (omega arith)
groups_from (suc j) (suc n) k bytes e h =
    let eight_more : 8 * suc j ≡ 8 + 8 * j = omega arith in
    ap (λ (x : ℕ). drop x (with_pec (six n bytes) ++ write_groups n bytes)) eight_more
    ∙ sym (drop-drop (8 * j) 8 (with_pec (six n bytes) ++ write_groups n bytes))
    ∙ ap (drop (8 * j)) (drop_at (with_pec (six n bytes)) (write_groups n bytes) 8 (omega (arith, length_with_pec (six n bytes), length_six n bytes (omega arith))))
    ∙ groups_from j n k bytes (omega arith) (omega arith)

-- device k + 1's group in a write
pub wire_frame : (n k code : ℕ) (bytes : List ℕ) → kind_of code ≡ 1 → k < n → length bytes ≡ 6 * n → wire n k (frame_of n code bytes) ≡ with_pec (six k bytes)
unfolding wire frame_of frame_body pick write_groups
wire_frame n k code bytes e h l =
    rw e (ap (take 8)
    (sym (drop-drop (8 * (n - 1 - k)) 4 (with_pec (two_bytes code) ++ write_groups n bytes))
    ∙ ap (drop (8 * (n - 1 - k))) (drop_at (with_pec (two_bytes code)) (write_groups n bytes) 4 (length_command code))
    ∙ groups_from (n - 1 - k) n k bytes (omega arith) (omega arith))
    ∙ take_at (with_pec (six k bytes)) (write_groups k bytes) 8 (omega (arith, length_with_pec (six k bytes), length_six k bytes (omega arith))))

-- BYTES
pub bytes_six : (k : ℕ) (bytes : List ℕ) → Bytes bytes → Bytes (six k bytes)
unfolding six
bytes_six k bytes h = bytes_part 6 (6 * k) bytes h

pub bytes_command : (code : ℕ) → (kind_of code ≡ 0 → ⊥) → Bytes (two_bytes code)
bytes_command code known = bytes_two code (omega (arith, known_below code known))

bytes_write_groups : (k : ℕ) (bytes : List ℕ) → Bytes bytes → Bytes (write_groups k bytes)
unfolding write_groups
bytes_write_groups zero bytes h = tt
bytes_write_groups (suc k) bytes h =
    bytes_append (with_pec (six k bytes)) (write_groups k bytes) (bytes_with_pec (six k bytes) (bytes_six k bytes h)) (bytes_write_groups k bytes h)

pub bytes_frame : (n code : ℕ) (bytes : List ℕ) → (kind_of code ≡ 0 → ⊥) → Bytes bytes → Bytes (frame_of n code bytes)
unfolding frame_of frame_body
bytes_frame n code bytes known b =
    bytes_append (with_pec (two_bytes code)) (frame_body n (kind_of code) bytes) (bytes_with_pec (two_bytes code) (bytes_command code known))
    (bytes_pick (is_write (kind_of code)) _ _ (bytes_write_groups n bytes b) (bytes_pick (is_read (kind_of code)) _ _ (bytes_replicate (8 * n) 255 (omega arith)) tt))

-- what the writer says it wrote lies within the output
pub written_fits : (n code : ℕ) (bytes out : List ℕ) (r : Written) (out' : List ℕ) → Wrote n code bytes out r out' → r.length ≤ length out
unfolding writer_length
written_fits n code bytes out r out' w = go (eqb r.number 0) refl
  where
    go : (b : Bool) → eqb r.number 0 ≡ b → r.length ≤ length out
    go true e =
        let m = made n code (length bytes) (length out) (sym w.number ∙ eqb-true r.number 0 e) in
        omega (arith, w.long ∙ pick_true (eqb r.number 0) (frame_length n (kind_of code)) 0 e, m.room)
    go false e = omega (arith, w.long ∙ pick_false (eqb r.number 0) (frame_length n (kind_of code)) 0 e)
