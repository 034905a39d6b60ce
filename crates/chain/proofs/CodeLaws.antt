-- The code that a frame asks for stands in its first four bytes. Assumes nothing.
use mathlib.Core.Path.{◌≡◌, sym, ap, ap₂, ◌∙◌}
use mathlib.Core.List.{List}
use Prim.Native.Nat.{ℕ, ◌+◌, ◌*◌, ◌<◌}
use native.Mathlib.Nat.{div-add-mod'}
use native.Mathlib.Omega.{arith}
use lib.ListN.{take, get_or}
use lib.Seq.{get_or-take}
use Rattle.pec.specs.Group.{two_bytes, with_pec}
use Rattle.chain.specs.Chain.{code_of}

-- two frames that agree in their first four bytes ask for one code
pub code_alike : (frame frame' : List ℕ) → take 4 frame ≡ take 4 frame' → code_of frame ≡ code_of frame'
unfolding code_of
code_alike frame frame' e = ap₂ (λ (x y : ℕ). x * 256 + y) (byte 0 (omega arith)) (byte 1 (omega arith))
  where
    byte : (i : ℕ) → i < 4 → get_or frame i 0 ≡ get_or frame' i 0
    byte i h = sym (get_or-take 4 frame i 0 h) ∙ ap (λ (l : List ℕ). get_or l i 0) e ∙ get_or-take 4 frame' i 0 h

-- a command group asks for its own code
pub code_of_right : (frame : List ℕ) (code : ℕ) → take 4 frame ≡ with_pec (two_bytes code) → code_of frame ≡ code
unfolding code_of with_pec two_bytes
code_of_right frame code e =
    ap₂ (λ (x y : ℕ). x * 256 + y)
    (sym (get_or-take 4 frame 0 0 (omega arith)) ∙ ap (λ (l : List ℕ). get_or l 0 0) e)
    (sym (get_or-take 4 frame 1 0 (omega arith)) ∙ ap (λ (l : List ℕ). get_or l 1 0) e)
    ∙ div-add-mod' code 256
