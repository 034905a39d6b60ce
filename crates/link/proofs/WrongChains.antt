-- Chains that 01's last section and its traps name: each is a rig that does not meet demand 3. Assumes nothing.
use mathlib.Core.Path.{◌≡◌, refl, sym, ap, ◌∙◌, subst}
use mathlib.Core.Bool.{Bool, ◌&&◌}
use mathlib.Core.List.{List, ◌++◌}
use Prim.Native.Nat.{ℕ, zero, suc, ◌+◌, ◌-◌, ◌*◌, ◌/◌, ◌%◌, ◌^◌, ◌≤◌, ◌<◌}
use native.Mathlib.Omega.{arith}
use lib.Dec.{eqb, ltb}
use lib.ListN.{take, drop, set, get_or, replicate, length-replicate}
use Rattle.lent.specs.Memory.{over, splice}
use Rattle.lent.specs.Refusal.{pick, first}
use Rattle.lent.specs.Word.{bits_where}
use Rattle.lent.proofs.Bytes.{bytes_replicate}
use Rattle.pec.specs.Register as Register
use Rattle.pec.specs.Register.{remainder_of, pec_of}
use Rattle.pec.specs.Group.{two_bytes, with_pec, body, sent, off_by, right}
use Rattle.pec.specs.Noise.{noisy, hit}
use Rattle.frames.specs.Size.{outside}
use Rattle.frames.specs.Kind.{is_write, data_needed, frame_length}
use Rattle.frames.specs.Commands.{rows, found, kind_of, group_of}
use Rattle.frames.specs.Places.{six, wire}
use Rattle.frames.specs.Frame.{write_groups, frame_body, frame_of}
use Rattle.frames.specs.Writer.{writer_number, writer_length, writer_out}
use Rattle.registers.specs.Dten.{dten, with_bit, with_dten}
use Rattle.registers.specs.State.{state_length, spot, pin_spot, stored, pin, shown, storing, pin_above}
use Rattle.registers.specs.Effect.{written, stored_bits, changed, report}
use Rattle.chain.specs.Chain.{code_of, chain_number, chain_word, chain_state}
use Rattle.link.specs.Rig.{Rig, ours}
use Rattle.link.specs.Sending.{Sending, kind, group, Fair}
use Rattle.link.specs.Step.{frame, arrives, serves, step}
use Rattle.link.specs.Promise.{lost, missed}
use Rattle.link.specs.Demands.{Demand3}
use Rattle.link.proofs.FairFrames.{plain, command_hit, group_hit, cfga_write, cfga_group, write_fair, write_lost_fair, write_hit_fair}
use Rattle.link.proofs.WrongHosts.{full, one}

-- The first byte that a write of group 0 leaves in device k + 1, as it reads, is what the demand says.
pub first_byte : (R : Rig) → Demand3 R → (n : ℕ) → 1 ≤ n → n ≤ 16 → (s : Sending) → Fair n s → kind s ≡ 1 → group s ≡ 0 → (k : ℕ) → k < n → (x y : ℕ)
    → get_or (shown k 0 (step R n s (full n)).registers) 0 0 ≡ x
    → get_or (pick (missed n s k) (shown k 0 (full n)) (with_dten 0 (pin k (full n)) (six k s.bytes))) 0 0 ≡ y → x ≡ y
first_byte R d n a b s F w g k h x y p q =
    sym p
    ∙ ap (λ (l : List ℕ). get_or l 0 0)
    (subst (λ (i : ℕ). shown k i (step R n s (full n)).registers ≡ pick (missed n s k) (shown k i (full n)) (with_dten i (pin k (full n)) (six k s.bytes))) g
    (((one R d n a b s F).write w).own k h))
    ∙ q

-- ours but for the registers, of which f makes others
abbrev pub with_registers : (ℕ → List ℕ → List ℕ → List ℕ → List ℕ) → Rig
with_registers f = record {
  writer = ours.writer;
  chain = λ n frame state reply. record {
    number = (ours.chain n frame state reply).number;
    word = (ours.chain n frame state reply).word;
    registers = f n frame state reply;
    reply = (ours.chain n frame state reply).reply;
  };
  reader = ours.reader;
}

-- IT STORES NOTHING, and claims what ours claims
abbrev pub forgetting : Rig
forgetting = with_registers (λ n frame state reply. state)

-- IT SERVES DEVICE 1, and only claims the rest in its word
abbrev pub claiming : Rig
claiming = with_registers (λ n frame state reply. take 109 (ours.chain n frame state reply).registers ++ drop 109 state)

-- IT DROPS A WHOLE WRITE because one group is wrong
abbrev dropping : Rig
dropping = with_registers (λ n frame state reply. pick (eqb (ours.chain n frame state reply).word (2 ^ n - 1)) (ours.chain n frame state reply).registers state)

-- IT STORES ALL because most are right: of a write, every group where more than half of them are right, and else what ours stores
abbrev spill : ℕ → ℕ → ℕ → List ℕ → List ℕ → List ℕ
spill n zero g frame state = state
spill n (suc k) g frame state = splice (spot k g) (take 6 (wire n k frame)) (spill n k g frame state)

-- how many of the low n bits of a word are set
abbrev ones : ℕ → ℕ → ℕ
ones zero word = 0
ones (suc k) word = ones k word + word / 2 ^ k % 2

abbrev most : ℕ → List ℕ → ℕ → Bool
most n frame word = is_write (kind_of (code_of frame)) && ltb n (2 * ones n word)

abbrev generous : Rig
generous = with_registers
    (λ n frame state reply. pick (most n frame (ours.chain n frame state reply).word) (spill n n (group_of (code_of frame)) frame state)
    (ours.chain n frame state reply).registers)

-- A write of 5s to n devices, not hit; and with a bit of device k + 1's group flipped.
abbrev pub put : ℕ → Sending
put n = plain n 1 (replicate (6 * n) 5)

pub put_fair : (n : ℕ) → Fair n (put n)
put_fair n = write_fair n (replicate (6 * n) 5) (length-replicate {A = ℕ} (6 * n) 5) (bytes_replicate (6 * n) 5 (omega arith))

abbrev pub hurt : ℕ → ℕ → Sending
hurt n k = group_hit n 1 (replicate (6 * n) 5) k

pub hurt_fair : (n k : ℕ) → k < n → Fair n (hurt n k)
hurt_fair n k h = write_hit_fair n (replicate (6 * n) 5) (length-replicate {A = ℕ} (6 * n) 5) (bytes_replicate (6 * n) 5 (omega arith)) k h

-- What each stores, as it reads (5 reads as 7, and what was there as 3): device 1 of one nothing, device 2 of two nothing, device 1 of two nothing as device 2's
-- group is wrong, and device 3 of three a byte that was never sent to it, 4, which reads as 6.
pub stores : (get_or (shown 0 0 (step forgetting 1 (put 1) (full 1)).registers) 0 0 ≡ 3)
    × (get_or (shown 1 0 (step claiming 2 (put 2) (full 2)).registers) 0 0 ≡ 3)
    × (get_or (shown 0 0 (step dropping 2 (hurt 2 1) (full 2)).registers) 0 0 ≡ 3)
    × (get_or (shown 2 0 (step generous 3 (hurt 3 2) (full 3)).registers) 0 0 ≡ 6)
unfolding step serves arrives frame noisy splice stored storing spot shown pin pin_spot with_dten with_bit dten pin_above wire written changed chain_number chain_word chain_state report stored_bits bits_where first pick outside right off_by sent body code_of state_length frame_length kind_of group_of rows found writer_number writer_length writer_out data_needed frame_of frame_body write_groups with_pec six two_bytes over pec_of remainder_of Register.step
stores = (refl, refl, refl, refl)

pub forgetting_fails : Demand3 forgetting → ⊥
unfolding missed lost hit wire kind_of rows found frame_length pick six pin pin_spot with_dten with_bit
forgetting_fails d =
    let e = first_byte forgetting d 1 (omega arith) (omega arith) (put 1) (put_fair 1) cfga_write cfga_group 0 (omega arith) 3 7 stores.0 refl in omega arith

pub claiming_fails : Demand3 claiming → ⊥
unfolding missed lost hit wire kind_of rows found frame_length pick six pin pin_spot with_dten with_bit
claiming_fails d =
    let e = first_byte claiming d 2 (omega arith) (omega arith) (put 2) (put_fair 2) cfga_write cfga_group 1 (omega arith) 3 7 stores.1 refl in omega arith

pub dropping_fails : Demand3 dropping → ⊥
unfolding missed lost hit wire kind_of rows found frame_length pick six pin pin_spot with_dten with_bit
dropping_fails d =
    let e = first_byte dropping d 2 (omega arith) (omega arith) (hurt 2 1) (hurt_fair 2 1 (omega arith)) cfga_write cfga_group 0 (omega arith) 3 7 stores.2 refl in
    omega arith

pub generous_fails : Demand3 generous → ⊥
unfolding missed lost hit wire kind_of rows found frame_length pick stored spot shown pin pin_spot with_dten with_bit
generous_fails d =
    let e = first_byte generous d 3 (omega arith) (omega arith) (hurt 3 2) (hurt_fair 3 2 (omega arith)) cfga_write cfga_group 2 (omega arith) 6 3 stores.3 refl in
    omega arith

-- IT COMPARES ONLY 15 BITS of the command's check word
abbrev closed : List ℕ → List ℕ
closed frame = set frame 3 (get_or frame 3 0 / 2 * 2)

abbrev lax : Rig
lax = record { writer = ours.writer; chain = λ n frame state reply. ours.chain n (closed frame) state reply; reader = ours.reader }

abbrev clipped : Sending
clipped = command_hit 1 1 (replicate 6 5)

lax_accepts : (step lax 1 clipped (full 1)).number ≡ 0
unfolding step serves arrives frame noisy pin pin_spot pin_above chain_number first pick outside right off_by sent body code_of state_length frame_length kind_of rows found writer_number writer_length writer_out data_needed frame_of frame_body write_groups with_pec six two_bytes over pec_of remainder_of Register.step
lax_accepts = refl

pub lax_fails : Demand3 lax → ⊥
unfolding lost hit pick
lax_fails d =
    let F = write_lost_fair 1 (replicate 6 5) refl (bytes_replicate 6 5 (omega arith)) in
    let e : ◌≡◌ {A = ℕ} 0 4 = sym lax_accepts ∙ (one lax d 1 (omega arith) (omega arith) clipped F).number in omega arith
