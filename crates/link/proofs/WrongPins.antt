-- Chains that treat DTEN otherwise than K5 says: each is a rig that does not meet demand 3. Assumes nothing.
use mathlib.Core.Path.{◌≡◌, refl, sym, ap, ◌∙◌}
use mathlib.Core.List.{List, []}
use Prim.Native.Nat.{ℕ}
use native.Mathlib.Omega.{arith}
use lib.ListN.{get_or, set, take, replicate}
use Rattle.lent.specs.Memory.{over, splice}
use Rattle.lent.specs.Refusal.{pick, first}
use Rattle.lent.proofs.Bytes.{bytes_replicate}
use Rattle.pec.specs.Register as Register
use Rattle.pec.specs.Register.{remainder_of, pec_of}
use Rattle.pec.specs.Group.{two_bytes, with_pec, body, sent, off_by, right}
use Rattle.pec.specs.Noise.{noisy, hit}
use Rattle.frames.specs.Size.{outside}
use Rattle.frames.specs.Kind.{data_needed, frame_length}
use Rattle.frames.specs.Commands.{rows, found, kind_of, group_of}
use Rattle.frames.specs.Places.{six, wire, eight}
use Rattle.frames.specs.Frame.{write_groups, frame_body, frame_of}
use Rattle.frames.specs.Writer.{writer_number, writer_length, writer_out}
use Rattle.registers.specs.Dten.{dten, with_bit, with_dten}
use Rattle.registers.specs.State.{state_length, spot, pin_spot, stored, pin, shown, storing, pin_above}
use Rattle.registers.specs.Effect.{silence, answers, answer, written, changed}
use Rattle.chain.specs.Chain.{code_of, chain_number, chain_state, chain_reply}
use Rattle.host.specs.Marks.{silent, mark_of, bytes_of}
use Rattle.host.specs.Reader.{all_bytes, reader_number, reader_bytes}
use Rattle.link.specs.Rig.{Rig, ours}
use Rattle.link.specs.Sending.{Sending, Fair}
use Rattle.link.specs.Step.{frame, arrives, serves, returns, hands, step}
use Rattle.link.specs.Promise.{lost, unread}
use Rattle.link.specs.Demands.{Demand3}
use Rattle.link.proofs.FairFrames.{plain, cfga_read, write_fair, read_fair}
use Rattle.link.proofs.WrongHosts.{full, one}
use Rattle.link.proofs.WrongChains.{with_registers, put, put_fair}

-- IT GIVES BACK WHAT IS STORED, as our rig did before K5: of device 1, DTEN and not the pin
abbrev echoing : Rig
echoing = record {
  writer = ours.writer;
  chain = λ n frame state reply. record {
    number = (ours.chain n frame state reply).number;
    word = (ours.chain n frame state reply).word;
    registers = (ours.chain n frame state reply).registers;
    reply = (ours.chain n frame (set state (pin_spot 0) (dten (stored 0 0 state))) reply).reply;
  };
  reader = ours.reader;
}

-- IT STORES THE BIT of device 1 with the others: reads show the pin, so only the state tells
abbrev taking : Rig
taking = with_registers (λ n frame state reply. splice (spot 0 0) (take 6 (wire n 0 frame)) state)

-- IT SETS THE PIN of device 1 by what is written
abbrev pulling : Rig
pulling = with_registers (λ n frame state reply. set (ours.chain n frame state reply).registers (pin_spot 0) (dten (take 6 (wire n 0 frame))))

-- A write of 2s to one device, in which DTEN is 1.
abbrev set_bits : Sending
set_bits = plain 1 1 (replicate 6 2)

set_bits_fair : Fair 1 set_bits
set_bits_fair = write_fair 1 (replicate 6 2) refl (bytes_replicate 6 2 (omega arith))

-- One device with its pin at 1 and DTEN stored as 0: the first shows 1 where a read has to show 3; of a write of 2s the second stores DTEN as 1; at a write of 5s,
-- in which it is 0, the third puts the pin to 0.
go_wrong : (get_or (six 0 (step echoing 1 (plain 1 2 []) (full 1)).bytes) 0 0 ≡ 1)
    × (dten (stored 0 0 (step taking 1 set_bits (full 1)).registers) ≡ 1)
    × (pin 0 (step pulling 1 (put 1) (full 1)).registers ≡ 0)
unfolding step hands returns serves arrives frame noisy eight silent mark_of bytes_of all_bytes reader_number reader_bytes over splice silence answers answer stored storing spot shown pin pin_spot dten with_dten with_bit pin_above wire written changed chain_number chain_state chain_reply first pick outside right off_by sent body code_of state_length frame_length kind_of group_of rows found writer_number writer_length writer_out data_needed frame_of frame_body write_groups with_pec six two_bytes pec_of remainder_of Register.step
go_wrong = (refl, refl, refl)

pub echoing_fails : Demand3 echoing → ⊥
unfolding unread lost hit eight kind_of group_of rows found frame_length pick stored spot shown pin pin_spot with_dten with_bit
echoing_fails d =
    let e : ◌≡◌ {A = ℕ} 1 3 =
    sym go_wrong.0
    ∙ ap (λ (l : List ℕ). get_or l 0 0) (((one echoing d 1 (omega arith) (omega arith) (plain 1 2 []) (read_fair 1)).read cfga_read).bytes 0 (omega arith)) in
    omega arith

pub taking_fails : Demand3 taking → ⊥
unfolding stored spot dten
taking_fails d =
    let e : ◌≡◌ {A = ℕ} 1 0 = sym go_wrong.1 ∙ (one taking d 1 (omega arith) (omega arith) set_bits set_bits_fair).dten_stays 0 (omega arith) in omega arith

pub pulling_fails : Demand3 pulling → ⊥
unfolding pin pin_spot
pulling_fails d =
    let e : ◌≡◌ {A = ℕ} 0 1 = sym go_wrong.2 ∙ (one pulling d 1 (omega arith) (omega arith) (put 1) (put_fair 1)).pins 0 (omega arith) in omega arith
