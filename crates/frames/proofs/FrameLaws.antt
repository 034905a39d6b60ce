-- A frame in lent memory: the command group first, and then what its kind puts behind it. Assumes nothing.
use mathlib.Core.Path.{◌≡◌, ap, ◌∙◌}
use mathlib.Core.List.{List, ◌++◌, append-nil}
use Prim.Native.Nat.{ℕ, ◌+◌, ◌-◌, ◌*◌, ◌≤◌, ◌<◌}
use native.Mathlib.Omega.{arith}
use lib.ListN.{length, drop}
use borrow.Rule.Slice.PartMut.{put_mid}
use Rattle.lent.specs.Memory.{over}
use Rattle.lent.proofs.Over.{over_more}
use Rattle.pec.specs.Group.{two_bytes, with_pec}
use Rattle.pec.proofs.Group.{length_with_pec}
use Rattle.frames.specs.Commands.{kind_of}
use Rattle.frames.specs.Frame.{frame_body, frame_of}
use Rattle.frames.proofs.KindCases.{body_short}

pub length_command : (code : ℕ) → length (with_pec (two_bytes code)) ≡ 4
unfolding two_bytes
length_command code = length_with_pec (two_bytes code)

module _ (n code kind : ℕ) (bytes out command : List ℕ) (ek : kind ≡ kind_of code) (ec : command ≡ with_pec (two_bytes code)) where
  -- a body that fills the part behind the command group
  pub frame_with : (body : List ℕ) → frame_body n kind bytes ≡ body → length body ≡ 8 * n → 4 + 8 * n ≤ length out
      → put_mid 4 (4 + 8 * n - 4) (command ++ drop 4 out) body ≡ over (frame_of n code bytes) out
  unfolding frame_of over
  frame_with body eb lb lo =
      let four : length command ≡ 4 = ap length ec ∙ length_command code in
      let start : command ++ drop 4 out ≡ over command out = rw four in
      ap (λ (x : List ℕ). put_mid 4 (4 + 8 * n - 4) x body) start ∙ over_more command body out 4 (4 + 8 * n) four (omega arith) lo ∙ rw (ec, ← ek, eb)

  -- the command group alone
  pub frame_alone : 2 < kind → command ++ drop 4 out ≡ over (frame_of n code bytes) out
  unfolding frame_of over
  frame_alone e = rw (← ek, body_short n kind bytes e, append-nil, ec, length_command code)
