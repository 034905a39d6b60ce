-- The other order on the wire: a writer that sends device 1's group first; and writer and chain that both take the groups of two devices in the other
-- order, so that data arrives where it should, and demand 3 still sees it, since noise on the first group of the wire concerns device 2. Assumes nothing.
use mathlib.Core.Path.{◌≡◌, refl}
use mathlib.Core.List.{List, ◌++◌}
use Prim.Native.Nat.{ℕ}
use native.Mathlib.Omega.{arith}
use lib.ListN.{get_or, take, drop, replicate}
use Rattle.lent.specs.Memory.{over, splice}
use Rattle.lent.specs.Refusal.{pick, first}
use Rattle.lent.proofs.Bytes.{bytes_append, bytes_replicate}
use Rattle.pec.specs.Register as Register
use Rattle.pec.specs.Register.{remainder_of, pec_of}
use Rattle.pec.specs.Group.{two_bytes, with_pec, body, sent, off_by, right}
use Rattle.pec.specs.Noise.{noisy, hit}
use Rattle.frames.specs.Size.{outside}
use Rattle.frames.specs.Kind.{data_needed, frame_length}
use Rattle.frames.specs.Commands.{rows, found, kind_of, group_of}
use Rattle.frames.specs.Places.{six, wire}
use Rattle.frames.specs.Frame.{write_groups, frame_body, frame_of}
use Rattle.frames.specs.Writer.{writer_number, writer_length, writer_out}
use Rattle.registers.specs.Dten.{dten, with_bit, with_dten}
use Rattle.registers.specs.State.{state_length, spot, pin_spot, stored, pin, shown, storing, pin_above}
use Rattle.registers.specs.Effect.{written, changed}
use Rattle.chain.specs.Chain.{code_of, chain_number, chain_state}
use Rattle.link.specs.Rig.{Rig, ours}
use Rattle.link.specs.Sending.{Sending, Fair}
use Rattle.link.specs.Step.{frame, arrives, serves, step}
use Rattle.link.specs.Promise.{lost, missed}
use Rattle.link.specs.Demands.{Demand3}
use Rattle.link.proofs.FairFrames.{plain, cfga_write, cfga_group, write_fair}
use Rattle.link.proofs.WrongHosts.{full}
use Rattle.link.proofs.WrongChains.{first_byte, hurt, hurt_fair}

-- the groups of two devices exchanged
abbrev exchanged : List ℕ → List ℕ
exchanged out = take 4 out ++ (take 8 (drop 12 out) ++ (take 8 (drop 4 out) ++ drop 20 out))

abbrev backward : Rig
backward = record {
  writer = λ n code bytes out. record {
    number = (ours.writer n code bytes out).number;
    size = (ours.writer n code bytes out).size;
    out = exchanged (ours.writer n code bytes out).out;
  };
  chain = ours.chain;
  reader = ours.reader;
}

abbrev swapped : Rig
swapped = record {
  writer = backward.writer;
  chain = λ n frame state reply. ours.chain n (exchanged frame) state reply;
  reader = ours.reader;
}

-- a write of 5s to device 1 and of 6s to device 2
abbrev both : Sending
both = plain 2 1 (replicate 6 5 ++ replicate 6 6)

both_fair : Fair 2 both
both_fair =
    write_fair 2 (replicate 6 5 ++ replicate 6 6) refl
    (bytes_append (replicate 6 5) (replicate 6 6) (bytes_replicate 6 5 (omega arith)) (bytes_replicate 6 6 (omega arith)))

-- device 1 stores what was sent to device 2, 6, where 5 would read as 7; and it keeps what it had, 3, where device 2's group was hit
stores : (get_or (shown 0 0 (step backward 2 both (full 2)).registers) 0 0 ≡ 6)
    × (get_or (shown 0 0 (step swapped 2 (hurt 2 1) (full 2)).registers) 0 0 ≡ 3)
unfolding step serves arrives frame noisy splice stored storing spot shown pin pin_spot with_dten with_bit dten pin_above wire written changed chain_number chain_state first pick outside right off_by sent body code_of state_length frame_length kind_of group_of rows found writer_number writer_length writer_out data_needed frame_of frame_body write_groups with_pec six two_bytes over pec_of remainder_of Register.step
stores = (refl, refl)

pub backward_fails : Demand3 backward → ⊥
unfolding missed lost hit wire kind_of rows found frame_length pick six pin pin_spot with_dten with_bit
backward_fails d =
    let e = first_byte backward d 2 (omega arith) (omega arith) both both_fair cfga_write cfga_group 0 (omega arith) 6 7 stores.0 refl in omega arith

pub swapped_fails : Demand3 swapped → ⊥
unfolding missed lost hit wire kind_of rows found frame_length pick six pin pin_spot with_dten with_bit
swapped_fails d =
    let e = first_byte swapped d 2 (omega arith) (omega arith) (hurt 2 1) (hurt_fair 2 1 (omega arith)) cfga_write cfga_group 0 (omega arith) 3 7 stores.1 refl in
    omega arith
