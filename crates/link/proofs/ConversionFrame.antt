-- A conversion over the noisy wire: no register changes, and the word says that it acts exactly when its command was not hit. Assumes nothing.
use mathlib.Core.Path.{◌≡◌, refl, ◌∙◌}
use mathlib.Core.Bool.{Bool, true, false}
use mathlib.Core.List.{List}
use Prim.Native.Nat.{ℕ, ◌-◌, ◌^◌, ◌≤◌}
use Rattle.lent.specs.Refusal.{pick}
use Rattle.registers.specs.State.{Sound}
use Rattle.registers.specs.Effect.{changed, report}
use Rattle.link.specs.Rig.{ours}
use Rattle.link.specs.Sending.{Sending, kind, Fair}
use Rattle.link.specs.Step.{step}
use Rattle.link.specs.Promise.{lost, Converts}
use Rattle.link.proofs.Arrival as Arrival

module _ (n : ℕ) (n1 : 1 ≤ n) (n16 : n ≤ 16) (s : Sending) (state : List ℕ) (F : Fair n s) (sound : Sound n state) (c : kind s ≡ 4) where
  unchanged : (b : Bool) → lost s ≡ b → (step ours n s state).registers ≡ state
  unfolding changed pick
  unchanged true e = Arrival.state_lost n n1 n16 s state F sound e
  unchanged false e = Arrival.state_good n n1 n16 s state F sound e ∙ rw c

  word : (b : Bool) → lost s ≡ b → (step ours n s state).word ≡ pick b 0 (2 ^ n - 1)
  unfolding report pick
  word true e = Arrival.word_lost n n1 n16 s state F sound e
  word false e = Arrival.word_good n n1 n16 s state F sound e ∙ rw c

  pub converts : Converts n s state (step ours n s state)
  converts = record { unchanged = unchanged (lost s) refl; word = word (lost s) refl }
