-- Versions that 01's last section has demand 2 shut out: each is a rig that does not meet it. Assumes nothing.
use mathlib.Core.Path.{◌≡◌, refl, sym, ap, ◌∙◌, subst}
use mathlib.Core.List.{List, []}
use Prim.Native.Nat.{ℕ, ◌≤◌, ◌<◌}
use native.Mathlib.Omega.{arith}
use lib.ListN.{get_or}
use Rattle.lent.specs.Memory.{over}
use Rattle.lent.specs.Refusal.{pick}
use Rattle.pec.specs.Noise.{hit}
use Rattle.frames.specs.Kind.{frame_length}
use Rattle.frames.specs.Commands.{rows, found, kind_of, group_of}
use Rattle.frames.specs.Places.{six}
use Rattle.frames.proofs.KindCases.{needs_data}
use Rattle.registers.specs.Dten.{with_bit, with_dten}
use Rattle.registers.specs.State.{spot, pin_spot, stored, pin, shown}
use Rattle.link.specs.Rig.{Rig}
use Rattle.link.specs.Sending.{Sending, kind, group, Fair}
use Rattle.link.specs.Step.{hands, step}
use Rattle.link.specs.Demands.{Quiet, held, read_back, Undisturbed, Demand2}
use Rattle.link.proofs.FairFrames.{plain, cfga_write, cfga_read, cfga_group, read_fair}
use Rattle.link.proofs.Held.{six_held, six_read_back}
use Rattle.link.proofs.WrongHosts.{full, full_bytes, full_sound, blank}
use Rattle.link.proofs.WrongChains.{forgetting, claiming, put, put_fair, stores}

-- what the demand says of one quiet frame on full registers, and of the first byte that a write of group 0 leaves in device k + 1, as it reads
module _ (R : Rig) (d : Demand2 R) (n : ℕ) (a : 1 ≤ n) (b : n ≤ 16) (s : Sending) (F : Fair n s) (q : Quiet s) where
  quiet_one : Undisturbed n s (full n) (step R n s (full n))
  quiet_one = (d n a b (full n) (full_bytes n) (full_sound n)).0 s F q

  quiet_byte : kind s ≡ 1 → group s ≡ 0 → (k : ℕ) → k < n → (x y : ℕ) → get_or (shown k 0 (step R n s (full n)).registers) 0 0 ≡ x
      → get_or (with_dten 0 (pin k (full n)) (six k s.bytes)) 0 0 ≡ y → x ≡ y
  quiet_byte w g k h x y p e =
      let after : List ℕ = (step R n s (full n)).registers in
      sym p
      ∙ ap (λ (l : List ℕ). get_or l 0 0)
      (sym (six_held n 0 after (omega arith) quiet_one.size n k (omega arith) h)
      ∙ ap (six k) (subst (λ (i : ℕ). held n i after ≡ read_back n i (full n) s.bytes) g (quiet_one.write w).0)
      ∙ six_read_back n 0 (full n) s.bytes (F.needed ∙ needs_data n (kind s) w) k h)
      ∙ e

-- zeros and mark 0 always
pub blank_shut_out : Demand2 blank → ⊥
unfolding step hands over hit kind_of group_of rows found frame_length pick stored spot shown pin pin_spot with_dten with_bit held
blank_shut_out d =
    let e : ◌≡◌ {A = ℕ} 0 3 =
    ap (λ (l : List ℕ). get_or l 0 0) ((quiet_one blank d 1 (omega arith) (omega arith) (plain 1 2 []) (read_fair 1) (refl, refl)).read cfga_read).0 in
    omega arith

-- a chain that stores nothing
pub forgetting_shut_out : Demand2 forgetting → ⊥
unfolding hit kind_of rows found frame_length pick six pin pin_spot with_dten with_bit
forgetting_shut_out d =
    let e = quiet_byte forgetting d 1 (omega arith) (omega arith) (put 1) (put_fair 1) (refl, refl) cfga_write cfga_group 0 (omega arith) 3 7 stores.0 refl in omega arith

-- a chain that serves device 1, and only claims the rest in its word
pub claiming_shut_out : Demand2 claiming → ⊥
unfolding hit kind_of rows found frame_length pick six pin pin_spot with_dten with_bit
claiming_shut_out d =
    let e = quiet_byte claiming d 2 (omega arith) (omega arith) (put 2) (put_fair 2) (refl, refl) cfga_write cfga_group 1 (omega arith) 3 7 stores.1 refl in omega arith
