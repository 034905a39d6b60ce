-- A reply, group by group: two are equal where their groups are, and one group can be replaced. Assumes nothing.
use mathlib.Core.Path.{◌≡◌, sym, ap, ap₂, ◌∙◌}
use mathlib.Core.List.{List, ◌++◌}
use Prim.Native.Nat.{ℕ, ◌+◌, ◌*◌, ◌/◌, ◌%◌, ◌≤◌, ◌<◌}
use native.Mathlib.Omega.{arith}
use lib.ListN.{length, take, drop, length-drop, take-append-drop, get_or-append}
use lib.Seq.{drop-drop, drop-append-le, take-append-le}
use Rattle.lent.specs.Memory.{over, splice}
use Rattle.lent.proofs.Parts.{pieces_ext}
use Rattle.lent.proofs.Splice.{splice_same, splice_before, splice_after}
use Rattle.pec.specs.Group.{two_bytes, with_pec}
use Rattle.pec.specs.Register.{pec_of}
use Rattle.frames.specs.Places.{eight}
use Rattle.registers.specs.Dten.{dten}

pub eight_ext : (n : ℕ) (x y : List ℕ) → length x ≡ 4 + 8 * n → length y ≡ 4 + 8 * n → take 4 x ≡ take 4 y → ((k : ℕ) → k < n → eight k x ≡ eight k y) → x ≡ y
unfolding eight
eight_ext n x y lx ly four each =
    sym (take-append-drop 4 x)
    ∙ ap₂ (λ (a b : List ℕ). a ++ b) four
    (pieces_ext 8 n (drop 4 x) (drop 4 y) (λ k h. ap (take 8) (drop-drop (8 * k) 4 x) ∙ each k h ∙ sym (ap (take 8) (drop-drop (8 * k) 4 y)))
    (omega (arith, length-drop 4 x)) (omega (arith, length-drop 4 y)))
    ∙ take-append-drop 4 y

pub eight_over : (k : ℕ) (new old : List ℕ) → 4 + 8 * k + 8 ≤ length new → eight k (over new old) ≡ eight k new
unfolding eight over
eight_over k new old h =
    ap (take 8) (drop-append-le (4 + 8 * k) new (drop (length new) old) (omega arith))
    ∙ take-append-le 8 (drop (4 + 8 * k) new) (drop (length new) old) (omega (arith, length-drop (4 + 8 * k) new))

-- a group replaced: itself, and those before and behind it
module _ (j k : ℕ) (piece reply : List ℕ) (long : length piece ≡ 8) (fits : 4 + 8 * j + 8 ≤ length reply) where
  pub eight_own : eight j (splice (4 + 8 * j) piece reply) ≡ piece
  unfolding eight
  eight_own = splice_same (4 + 8 * j) 8 piece reply long fits

  pub eight_before : k < j → eight k (splice (4 + 8 * j) piece reply) ≡ eight k reply
  unfolding eight
  eight_before h = splice_before (4 + 8 * k) 8 (4 + 8 * j) piece reply (omega arith) (omega arith)

  pub eight_behind : j < k → eight k (splice (4 + 8 * j) piece reply) ≡ eight k reply
  unfolding eight
  eight_behind h = splice_after (4 + 8 * k) 8 (4 + 8 * j) piece reply (omega arith) (omega arith)

pub dten_with_pec : (xs : List ℕ) → 0 < length xs → dten (with_pec xs) ≡ dten xs
unfolding dten with_pec
dten_with_pec xs h = ap (λ (x : ℕ). x / 2 % 2) (get_or-append xs (two_bytes (pec_of xs)) 0 0 h)
