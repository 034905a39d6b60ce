-- The bit-by-bit step is the polynomial's: the bit is added at x^14, and the sum is multiplied by x and reduced by the whole polynomial. Assumes nothing.
use mathlib.Core.Path.{◌≡◌, sym, ap, ap₂, ◌∙◌}
use Prim.Native.Nat.{ℕ, ◌+◌, ◌*◌, ◌/◌, ◌%◌, ◌<◌}
use native.Mathlib.Nat.{zero-add, mod-lt, mod-eq_of_lt}
use native.Mathlib.Omega.{arith}
use lib.Bits.{bit_xor, xor_shr, xor_lt, xor_self, xor_zero_r, xor_block}
use lib.Dec.{lit<}
use lib.Pow.{shl-shr, pow_pos}
use Rattle.pec.specs.Register.{step}
use Rattle.pec.specs.Polynomial.{times_x}
use Rattle.pec.proofs.Xor.{xor_shift}

pub step_is_times_x : (r b : ℕ) → r < 32768 → b < 2 → step r b ≡ times_x (bit_xor r (b * 16384))
unfolding step times_x
step_is_times_x r b hr hb =
    sym (ap₂ bit_xor left right
    ∙ xor_block 15 f f a (f * 0x4599) (mod-lt (r * 2) (lit< tt)) small
    ∙ ap (λ (x : ℕ). x * 32768 + bit_xor a (f * 0x4599)) (xor_self f)
    ∙ zero-add (bit_xor a (f * 0x4599))
    ∙ ap (λ (x : ℕ). bit_xor a (x * 0x4599)) (sym (mod-eq_of_lt bit)))
  where
    -- whether x^15 comes up, and what is left below it
    f : ℕ
    f = bit_xor (r / 16384) b

    a : ℕ
    a = r * 2 % 32768

    bit : f < 2
    bit = xor_lt 1 (r / 16384) b (omega arith) hb

    small : f * 0x4599 < 32768
    small = omega (arith, bit)

    top : bit_xor r (b * 16384) / 16384 ≡ f
    top = xor_shr r (b * 16384) 14 ∙ ap (bit_xor (r / 16384)) (shl-shr b 14)

    doubled : r * 2 ≡ r / 16384 * 32768 + r * 2 % 32768
    doubled = omega arith

    twice : b * 16384 * 2 ≡ b * 32768 + 0
    twice = omega arith

    left : bit_xor r (b * 16384) * 2 ≡ f * 32768 + a
    left =
        sym (xor_shift 1 r (b * 16384))
        ∙ ap₂ bit_xor doubled twice
        ∙ xor_block 15 (r / 16384) b a 0 (mod-lt (r * 2) (lit< tt)) (pow_pos 15)
        ∙ ap (λ (x : ℕ). f * 32768 + x) (xor_zero_r a)

    spread : (n : ℕ) → n * 0xC599 ≡ n * 32768 + n * 0x4599
    spread n = omega arith

    right : bit_xor r (b * 16384) / 16384 * 0xC599 ≡ f * 32768 + f * 0x4599
    right = ap (λ (x : ℕ). x * 0xC599) top ∙ spread f
