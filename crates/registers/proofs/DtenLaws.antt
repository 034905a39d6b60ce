-- DTEN put into a group: it is then that bit, a second put takes the place of the first, the other bits and the length stay. Assumes nothing.
use mathlib.Core.Path.{◌≡◌, refl, ap}
use mathlib.Core.Bool.{Bool, true, false}
use mathlib.Core.List.{List, [], ◌∷◌}
use Prim.Native.Nat.{ℕ, ◌/◌, ◌%◌, ◌≤◌, ◌<◌}
use native.Mathlib.Omega.{arith}
use borrow.Author.Tests.{ne_eqb}
use lib.Dec.{eqb}
use lib.ListN.{length, get_or, set}
use Rattle.lent.specs.Bytes.{Bytes}
use Rattle.lent.specs.Refusal.{pick}
use Rattle.lent.proofs.Pick.{pick_false}
use Rattle.registers.specs.Dten.{dten, with_bit, with_dten, OneBit}

-- ONE BYTE
pub one_bit : OneBit
unfolding with_bit
one_bit b x h = (omega arith, omega arith, omega arith)

bit_again : (b c x : ℕ) → c ≤ 1 → with_bit b (with_bit c x) ≡ with_bit b x
unfolding with_bit
bit_again b c x h = omega arith

bit_own : (x : ℕ) → with_bit (x / 2 % 2) x ≡ x
unfolding with_bit
bit_own x = omega arith

bit_byte : (b x : ℕ) → b ≤ 1 → x < 256 → with_bit b x < 256
unfolding with_bit
bit_byte b x h l = omega arith

-- SIX BYTES, or any other count; the test is whether the group is CFGA
put : Bool → ℕ → List ℕ → List ℕ
put t b xs = pick t (set xs 0 (with_bit b (get_or xs 0 0))) xs

length_put : (t : Bool) (b : ℕ) (xs : List ℕ) → length (put t b xs) ≡ length xs
unfolding put pick
length_put true b [] = refl
length_put true b (x ∷ xs) = refl
length_put false b xs = refl

put_again : (t : Bool) (b c : ℕ) (xs : List ℕ) → c ≤ 1 → put t b (put t c xs) ≡ put t b xs
unfolding put pick
put_again true b c [] h = refl
put_again true b c (x ∷ xs) h = ap (λ (y : ℕ). y ∷ xs) (bit_again b c x h)
put_again false b c xs h = refl

put_own : (t : Bool) (xs : List ℕ) → put t (dten xs) xs ≡ xs
unfolding put pick dten
put_own true [] = refl
put_own true (x ∷ xs) = ap (λ (y : ℕ). y ∷ xs) (bit_own x)
put_own false xs = refl

bytes_put : (t : Bool) (b : ℕ) (xs : List ℕ) → b ≤ 1 → Bytes xs → Bytes (put t b xs)
unfolding put pick
bytes_put true b [] h are = tt
bytes_put true b (x ∷ xs) h are = (bit_byte b x h are.0, are.1)
bytes_put false b xs h are = are

module _ (g : ℕ) where
  pub length_with_dten : (b : ℕ) (xs : List ℕ) → length (with_dten g b xs) ≡ length xs
  unfolding with_dten put
  length_with_dten = length_put (eqb g 0)

  -- of two puts the later counts
  pub dten_again : (b c : ℕ) (xs : List ℕ) → c ≤ 1 → with_dten g b (with_dten g c xs) ≡ with_dten g b xs
  unfolding with_dten put
  dten_again = put_again (eqb g 0)

  -- the bit that is there already
  pub dten_own : (xs : List ℕ) → with_dten g (dten xs) xs ≡ xs
  unfolding with_dten put
  dten_own = put_own (eqb g 0)

  pub bytes_with_dten : (b : ℕ) (xs : List ℕ) → b ≤ 1 → Bytes xs → Bytes (with_dten g b xs)
  unfolding with_dten put
  bytes_with_dten = bytes_put (eqb g 0)

  pub dten_pick : (t : Bool) (b : ℕ) (xs ys : List ℕ) → with_dten g b (pick t xs ys) ≡ pick t (with_dten g b xs) (with_dten g b ys)
  unfolding pick
  dten_pick true b xs ys = refl
  dten_pick false b xs ys = refl

-- of CFGA: the bytes, and then the first byte with the bit
pub dten_laid : (g b v : ℕ) (xs after : List ℕ) → g ≡ 0 → after ≡ xs → v ≡ with_bit b (get_or xs 0 0) → set after 0 v ≡ with_dten g b xs
unfolding with_dten pick
dten_laid g b v xs after eg ea ev = rw (eg, ev, ea)

-- every other group has no such bit
pub no_dten : (g b : ℕ) (xs : List ℕ) → (g ≡ 0 → ⊥) → with_dten g b xs ≡ xs
unfolding with_dten
no_dten g b xs h = pick_false (eqb g 0) _ xs (ne_eqb g 0 h)

-- what the bit is
pub dten_small : (xs : List ℕ) → dten xs ≤ 1
unfolding dten
dten_small xs = omega arith

pub dten_with : (b : ℕ) (xs : List ℕ) → b ≤ 1 → 0 < length xs → dten (with_dten 0 b xs) ≡ b
unfolding dten with_dten pick
dten_with b [] h l = absurd (omega arith)
dten_with b (x ∷ xs) h l = (one_bit b x h).0
