-- A mask can do whatever flips can do: for any bytes that arrive in place of the bytes sent there is a mask, its bits are 1 where the two differ, and a mask
-- that changes nothing is one that flips nothing. Assumes nothing.
use mathlib.Core.Path.{◌≡◌, refl, sym, ap, ap₂, ◌∙◌}
use mathlib.Core.Bool.{Bool, false, not, ◌||◌}
use mathlib.Core.List.{List, [], ◌∷◌}
use Prim.Native.Nat.{ℕ, suc}
use native.Mathlib.Omega.{arith}
use borrow.Author.Tests.{eq-eqb}
use lib.Bits.{bit_xor, xor_self, xor_comm, xor_lt}
use lib.ListN.{length, get_or, drop}
use Rattle.lent.specs.Bytes.{Bytes}
use Rattle.pec.specs.Register.{bits}
use Rattle.pec.specs.Noise.{noisy, hit}
use Rattle.pec.proofs.Xor.{xor_back}
use Rattle.pec.proofs.Linear.{xors}
use Rattle.pec.proofs.Mask.{bits_noisy}

-- the mask between the bytes sent and those that arrive
unfoldable pub mask_of : List ℕ → List ℕ → List ℕ
mask_of [] ys = []
mask_of (x ∷ xs) [] = []
mask_of (x ∷ xs) (y ∷ ys) = bit_xor y x ∷ mask_of xs ys

pub mask_does : (xs ys : List ℕ) → length xs ≡ length ys → noisy (mask_of xs ys) xs ≡ ys
unfolding mask_of noisy
mask_does [] [] l = refl
mask_does [] (y ∷ ys) l = absurd (omega arith)
mask_does (x ∷ xs) [] l = absurd (omega arith)
mask_does (x ∷ xs) (y ∷ ys) l = ap₂ ◌∷◌ (xor_comm x (bit_xor y x) ∙ xor_back y x) (mask_does xs ys (omega arith))

pub mask_long : (xs ys : List ℕ) → length xs ≡ length ys → length (mask_of xs ys) ≡ length xs
unfolding mask_of
mask_long [] ys l = refl
mask_long (x ∷ xs) [] l = absurd (omega arith)
mask_long (x ∷ xs) (y ∷ ys) l = ap suc (mask_long xs ys (omega arith))

pub mask_bytes : (xs ys : List ℕ) → Bytes xs → Bytes ys → Bytes (mask_of xs ys)
unfolding mask_of
mask_bytes [] ys bx by = tt
mask_bytes (x ∷ xs) [] bx by = tt
mask_bytes (x ∷ xs) (y ∷ ys) bx by = (xor_lt 8 y x by.0 bx.0, mask_bytes xs ys bx.1 by.1)

pub mask_flips : (xs ys : List ℕ) → length xs ≡ length ys → xors (bits xs) (bits (mask_of xs ys)) ≡ bits ys
mask_flips xs ys l = sym (bits_noisy (mask_of xs ys) xs (mask_long xs ys l)) ∙ ap bits (mask_does xs ys l)

pub hit_changes : (m xs : List ℕ) → length m ≡ length xs → noisy m xs ≡ xs → hit m ≡ false
unfolding noisy hit
hit_changes [] xs l e = refl
hit_changes (m ∷ ms) [] l e = absurd (omega arith)
hit_changes (m ∷ ms) (x ∷ xs) l e =
    let none : m ≡ 0 = sym (xor_back m x) ∙ ap (λ (y : ℕ). bit_xor y x) (xor_comm m x ∙ ap (λ (q : List ℕ). get_or q 0 0) e) ∙ xor_self x in
    ap₂ (λ (p q : Bool). not p || q) (eq-eqb m 0 none) (hit_changes ms xs (omega arith) (ap (drop 1) e))
