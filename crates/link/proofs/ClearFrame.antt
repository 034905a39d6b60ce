-- A clear over the noisy wire: it acts on every device exactly when its command was not hit. Assumes nothing.
use mathlib.Core.Path.{◌≡◌, refl, sym, ap, ◌∙◌}
use mathlib.Core.Bool.{Bool, true, false, not, ◌||◌, ◌&&◌}
use mathlib.Core.Logic.{inl, inr}
use mathlib.Core.List.{List}
use Prim.Native.Nat.{ℕ, suc, ◌+◌, ◌-◌, ◌^◌, ◌≤◌, ◌<◌}
use native.Mathlib.Omega.{arith}
use borrow.Author.Tests.{leb-true, leb-false}
use lib.Dec.{eqb, leb}
use lib.ListN.{replicate}
use Rattle.lent.specs.Refusal.{pick}
use Rattle.frames.specs.Commands.{Row, rows, found, kind_of, group_of}
use Rattle.lent.proofs.Tests.{each_below}
use Rattle.frames.proofs.Lookup.{every, looked_up, found_code}
use Rattle.registers.specs.State.{shown, Sound}
use Rattle.registers.specs.Effect.{silence, clear_count, cleared, changed, report}
use Rattle.registers.proofs.ClearLaws.{clear_room, clear_high, shown_own, shown_other}
use Rattle.link.specs.Rig.{ours}
use Rattle.link.specs.Sending.{Sending, kind, group, Fair}
use Rattle.link.specs.Step.{step}
use Rattle.link.specs.Promise.{lost, sweeps, Clears}
use Rattle.link.proofs.Arrival as Arrival

-- of a clear of the table, the groups that it sweeps are those from its first on: one test computed over the rows, at each of the eighteen groups
alike : Bool → Bool → Bool
alike true b = b
alike false b = not b

alike_same : (a b : Bool) → alike a b ≡ true → a ≡ b
unfolding alike
alike_same true b e = sym e
alike_same false true e = e
alike_same false false e = refl

abbrev from_first : ℕ → Row → Bool
from_first h r = leb r.group h && leb (suc h) (r.group + clear_count r.group)

sweep_test : ℕ → Row → Bool
sweep_test h r = not (eqb r.kind 3) || alike (sweeps r.code h) (from_first h r)

tested : (h : ℕ) → h < 18 → every (sweep_test h) rows ≡ true
unfolding sweep_test sweeps alike clear_count pick rows
tested h l = each_below (λ (i : ℕ). every (sweep_test i) rows) 18 refl h l

pub sweeps_from : (code h : ℕ) → kind_of code ≡ 3 → h < 18 → sweeps code h ≡ (leb (group_of code) h && leb (suc h) (group_of code + clear_count (group_of code)))
unfolding kind_of group_of sweep_test
sweeps_from code h e l =
    let t : (not (eqb (kind_of code) 3) || alike (sweeps (found code rows).code h) (from_first h (found code rows))) ≡ true =
    looked_up (sweep_test h) code refl refl (tested h l) in
    ap (λ (c : ℕ). sweeps c h) (sym (found_code code rows)) ∙ alike_same (sweeps (found code rows).code h) (from_first h (found code rows)) (rw e at t)

module _ (n : ℕ) (n1 : 1 ≤ n) (n16 : n ≤ 16) (s : Sending) (state : List ℕ) (F : Fair n s) (sound : Sound n state) (c : kind s ≡ 3) where
  abbrev count : ℕ
  count = clear_count (group s)

  room : group s + count ≤ 18
  room = clear_room s.code c

  state_clear : lost s ≡ false → (step ours n s state).registers ≡ cleared n (group s) count state
  unfolding changed pick
  state_clear e = Arrival.state_good n n1 n16 s state F sound e ∙ rw c

  word_clear : lost s ≡ false → (step ours n s state).word ≡ 2 ^ n - 1
  unfolding report pick
  word_clear e = Arrival.word_good n n1 n16 s state F sound e ∙ rw c

  -- every group of every device, where the clear acts
  swept : (k h : ℕ) → k < n → h < 18 → shown k h (cleared n (group s) count state) ≡ pick (not (sweeps s.code h)) (shown k h state) (replicate 6 255)
  unfolding pick silence
  swept k h lk lh =
      go (leb (group s) h) refl (leb (suc h) (group s + count)) refl
      ∙ ap (λ (b : Bool). pick (not b) (shown k h state) (replicate 6 255)) (sym (sweeps_from s.code h c lh))
    where
      go : (a : Bool) → leb (group s) h ≡ a → (b : Bool) → leb (suc h) (group s + count) ≡ b
          → shown k h (cleared n (group s) count state) ≡ pick (not (a && b)) (shown k h state) (replicate 6 255)
      go true p true q = shown_own n (group s) count state room sound.whole (clear_high s.code c) k h lk (leb-true (group s) h p) (leb-true (suc h) (group s + count) q)
      go true p false q =
          shown_other n (group s) count state room sound.whole k h lh (inr (omega (arith, leb-false (suc h) (group s + count) q)))
      go false p b q = shown_other n (group s) count state room sound.whole k h lh (inl (leb-false (group s) h p))

  all : (b : Bool) → lost s ≡ b → (k h : ℕ) → k < n → h < 18
      → shown k h (step ours n s state).registers ≡ pick (b || not (sweeps s.code h)) (shown k h state) (replicate 6 255)
  unfolding pick
  all true e k h lk lh = ap (shown k h) (Arrival.state_lost n n1 n16 s state F sound e)
  all false e k h lk lh = ap (shown k h) (state_clear e) ∙ swept k h lk lh

  word : (b : Bool) → lost s ≡ b → (step ours n s state).word ≡ pick b 0 (2 ^ n - 1)
  unfolding pick
  word true e = Arrival.word_lost n n1 n16 s state F sound e
  word false e = word_clear e

  pub clears : Clears n s state (step ours n s state)
  clears = record { all = λ k h lk lh. all (lost s) refl k h lk lh; word = word (lost s) refl }
