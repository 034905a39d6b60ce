-- Laws of masks: parts of what arrives, and its bits. Assumes nothing.
use mathlib.Core.Path.{◌≡◌, refl, ap, ap₂, ◌∙◌}
use mathlib.Core.Bool.{Bool, false, not, ◌||◌}
use mathlib.Core.List.{List, [], ◌∷◌}
use Prim.Native.Nat.{ℕ, zero, suc, ◌/◌, ◌%◌, ◌^◌, ◌≤◌, ◌<◌, min}
use native.Mathlib.Omega.{arith}
use borrow.Author.Tests.{eqb-true, not-false}
use lib.Bits.{bit_xor, xor_zero_r, xor_lt, xor_shr, xor_mod}
use lib.Dec.{eqb}
use lib.ListN.{length, get_or, take, drop, set, replicate}
use lib.Seq.{take-nil}
use Rattle.lent.specs.Bytes.{Bytes}
use Rattle.lent.proofs.Tests.{or_left, or_right}
use Rattle.pec.specs.Register.{bits}
use Rattle.pec.specs.Noise.{noisy, hit}
use Rattle.pec.proofs.Linear.{xors}

pub length_noisy : (m xs : List ℕ) → length (noisy m xs) ≡ length xs
unfolding noisy
length_noisy [] xs = refl
length_noisy (m ∷ ms) [] = refl
length_noisy (m ∷ ms) (x ∷ xs) = ap suc (length_noisy ms xs)

pub bytes_noisy : (m xs : List ℕ) → Bytes m → Bytes xs → Bytes (noisy m xs)
unfolding noisy
bytes_noisy [] xs hm hx = hx
bytes_noisy (m ∷ ms) [] hm hx = tt
bytes_noisy (m ∷ ms) (x ∷ xs) hm hx = (xor_lt 8 x m hx.0 hm.0, bytes_noisy ms xs hm.1 hx.1)

-- where no bit is flipped, what arrives is what was sent
pub unhit_same : (m xs : List ℕ) → hit m ≡ false → noisy m xs ≡ xs
unfolding noisy hit
unhit_same [] xs e = refl
unhit_same (m ∷ ms) [] e = refl
unhit_same (m ∷ ms) (x ∷ xs) e =
    ap₂ ◌∷◌
    (ap (bit_xor x) (eqb-true m 0 (not-false (eqb m 0) (or_left (not (eqb m 0)) (hit ms) e))) ∙ xor_zero_r x)
    (unhit_same ms xs (or_right (not (eqb m 0)) (hit ms) e))

-- the bits of what arrives: those sent, flipped where the mask's are 1
bit : (k x m : ℕ) → bit_xor x m / 2 ^ k % 2 ≡ bit_xor (x / 2 ^ k % 2) (m / 2 ^ k % 2)
bit k x m = ap (λ (n : ℕ). n % 2) (xor_shr x m k) ∙ xor_mod (x / 2 ^ k) (m / 2 ^ k) 1

pub bits_noisy : (m xs : List ℕ) → length m ≡ length xs → bits (noisy m xs) ≡ xors (bits xs) (bits m)
unfolding noisy
bits_noisy [] [] l = refl
bits_noisy [] (x ∷ xs) l = absurd (omega arith)
bits_noisy (m ∷ ms) [] l = absurd (omega arith)
bits_noisy (m ∷ ms) (x ∷ xs) l =
    ap₂ ◌∷◌ (bit 7 x m) (ap₂ ◌∷◌ (bit 6 x m) (ap₂ ◌∷◌ (bit 5 x m) (ap₂ ◌∷◌ (bit 4 x m)
    (ap₂ ◌∷◌ (bit 3 x m) (ap₂ ◌∷◌ (bit 2 x m) (ap₂ ◌∷◌ (bit 1 x m) (ap₂ ◌∷◌ (xor_mod x m 1) (bits_noisy ms xs (omega arith)))))))))

-- parts of what arrives
pub take_noisy : (n : ℕ) (m xs : List ℕ) → take n (noisy m xs) ≡ noisy (take n m) (take n xs)
unfolding noisy
take_noisy zero m xs = refl
take_noisy (suc n) [] xs = refl
take_noisy (suc n) (m ∷ ms) [] = refl
take_noisy (suc n) (m ∷ ms) (x ∷ xs) = ap₂ ◌∷◌ refl (take_noisy n ms xs)

pub drop_noisy : (n : ℕ) (m xs : List ℕ) → drop n (noisy m xs) ≡ noisy (drop n m) (drop n xs)
unfolding noisy
drop_noisy zero m xs = refl
drop_noisy (suc n) [] xs = refl
drop_noisy (suc n) (m ∷ ms) [] = none (drop n ms)
  where
    none : (l : List ℕ) → [] ≡ noisy l []
    none [] = refl
    none (x ∷ l) = refl
drop_noisy (suc n) (m ∷ ms) (x ∷ xs) = drop_noisy n ms xs

pub part_noisy : (n at : ℕ) (m xs : List ℕ) → take n (drop at (noisy m xs)) ≡ noisy (take n (drop at m)) (take n (drop at xs))
part_noisy n at m xs = ap (take n) (drop_noisy at m xs) ∙ take_noisy n (drop at m) (drop at xs)

-- a part of a mask that flips nothing flips nothing
pub unhit_take : (n : ℕ) (m : List ℕ) → hit m ≡ false → hit (take n m) ≡ false
unfolding hit
unhit_take zero m e = refl
unhit_take (suc n) [] e = refl
unhit_take (suc n) (m ∷ ms) e =
    ap₂ (λ (a b : Bool). a || b) (or_left (not (eqb m 0)) (hit ms) e) (unhit_take n ms (or_right (not (eqb m 0)) (hit ms) e))

pub unhit_drop : (n : ℕ) (m : List ℕ) → hit m ≡ false → hit (drop n m) ≡ false
unfolding hit
unhit_drop zero m e = e
unhit_drop (suc n) [] e = refl
unhit_drop (suc n) (m ∷ ms) e = unhit_drop n ms (or_right (not (eqb m 0)) (hit ms) e)

pub unhit_part : (n at : ℕ) (m : List ℕ) → hit m ≡ false → hit (take n (drop at m)) ≡ false
unhit_part n at m e = unhit_take n (drop at m) (unhit_drop at m e)

pub unhit_zeros : (n : ℕ) → hit (replicate n 0) ≡ false
unfolding hit
unhit_zeros zero = refl
unhit_zeros (suc n) = unhit_zeros n

-- noise laid on byte by byte: one byte more, and the end of the mask or of the bytes
pub noisy_more : (m xs : List ℕ) (i : ℕ) → i < length m → i < length xs
    → set (noisy (take i m) xs) i (bit_xor (get_or (noisy (take i m) xs) i 0) (get_or m i 0)) ≡ noisy (take (suc i) m) xs
unfolding noisy
noisy_more [] xs i hm hx = absurd (omega arith)
noisy_more (m ∷ ms) [] i hm hx = absurd (omega arith)
noisy_more (m ∷ ms) (x ∷ xs) zero hm hx = refl
noisy_more (m ∷ ms) (x ∷ xs) (suc i) hm hx = ap₂ ◌∷◌ refl (noisy_more ms xs i (omega arith) (omega arith))

pub noisy_all : (m xs : List ℕ) (i : ℕ) → min (length m) (length xs) ≤ i → noisy (take i m) xs ≡ noisy m xs
unfolding noisy
noisy_all [] xs i h = ap (λ (l : List ℕ). noisy l xs) (take-nil i)
noisy_all (m ∷ ms) [] zero h = refl
noisy_all (m ∷ ms) [] (suc i) h = refl
noisy_all (m ∷ ms) (x ∷ xs) zero h = absurd (omega arith)
noisy_all (m ∷ ms) (x ∷ xs) (suc i) h = ap₂ ◌∷◌ refl (noisy_all ms xs i (omega arith))
