-- What a device holds after a run, by what was hit alone. It follows from demand 3, for any rig. Assumes nothing.
use Rattle.std.specs.Prelude.{ℕ, ◌<◌, ◌≤◌, ◌≡◌, false, not, ◌&&◌, List, [], ◌∷◌, eqb, get_or, replicate}
use Rattle.lent.specs.Bytes.{Bytes}
use Rattle.lent.specs.Refusal.{pick}
use Rattle.frames.specs.Kind.{is_write, is_clear}
use Rattle.frames.specs.Places.{six}
use Rattle.registers.specs.Dten.{dten, with_dten}
use Rattle.registers.specs.State.{stored, pin, shown, Sound}
use Rattle.link.specs.Rig.{Rig}
use Rattle.link.specs.Sending.{Sending, kind, group, Fair}
use Rattle.link.specs.Step.{step}
use Rattle.link.specs.Promise.{lost, missed, unread, sweeps}
use Rattle.link.specs.Demands.{AllFair, after}

-- device k + 1's group h, read through its pin p, after one frame, and after a run: a read and a conversion leave it
unfoldable pub takes : ℕ → ℕ → ℕ → ℕ → Sending → List ℕ → List ℕ
takes n k h p s old =
    pick (is_write (kind s)) (pick (eqb h (group s) && not (missed n s k)) (with_dten h p (six k s.bytes)) old)
    (pick (is_clear (kind s)) (pick (sweeps s.code h && not (lost s)) (replicate 6 255) old) old)

abbrev pub holds : ℕ → ℕ → ℕ → ℕ → List Sending → List ℕ → List ℕ
holds n k h p [] old = old
holds n k h p (s ∷ ss) old = holds n k h p ss (takes n k h p s old)

-- the registers that a run leaves
abbrev pub left : Rig → ℕ → List ℕ → List Sending → List ℕ
left R n registers [] = registers
left R n registers (s ∷ ss) = left R n (after R n s registers) ss

-- After any run each device holds that, every pin and every stored DTEN is what it was, and a read hands just that out of each device that it does not miss.
abbrev pub Story : Rig → Type 0
Story R =
    (n : ℕ) → 1 ≤ n → n ≤ 16 → (state : List ℕ) → Bytes state → Sound n state → (ss : List Sending) → AllFair n ss
    → ((k h : ℕ) → k < n → h < 18 → shown k h (left R n state ss) ≡ holds n k h (pin k state) ss (shown k h state))
    × ((k : ℕ) → k < n → (pin k (left R n state ss) ≡ pin k state) × (dten (stored k 0 (left R n state ss)) ≡ dten (stored k 0 state)))
    × ((r : Sending) → Fair n r → kind r ≡ 2 → (k : ℕ) → k < n → unread r k ≡ false
    → (get_or (step R n r (left R n state ss)).marks k 0 ≡ 0)
    × (six k (step R n r (left R n state ss)).bytes ≡ holds n k (group r) (pin k state) ss (shown k (group r) state)))
