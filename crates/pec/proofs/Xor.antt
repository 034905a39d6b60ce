-- Laws of exclusive or on numbers that lib.Bits leaves out. Assumes nothing.
use mathlib.Core.Path.{◌≡◌, refl, sym, ap, ap₂, ◌∙◌}
use Prim.Native.Nat.{ℕ, zero, suc, ◌+◌, ◌*◌, ◌/◌, ◌%◌, ◌^◌, ◌<◌}
use native.Mathlib.Nat.{add-zero, le_of_suc-le-suc, not-suc-le-zero, mod-lt, zero-lt-suc}
use lib.Arith.{bin_ind}
use lib.Bits.{bit_xor, differ, xor_step, xor_shr, xor_mod, xor_comm, xor_self, xor_zero_r, xor_block}
use lib.Pow.{pow_pos}

-- what holds of 0 and of 1 holds of what is left by 2
pub mod2 : (P : ℕ → Type 0) → P 0 → P 1 → (n : ℕ) → P (n % 2)
mod2 P p q n = two (n % 2) (mod-lt n (zero-lt-suc 1))
  where
    two : (m : ℕ) → m < 2 → P m
    two zero h = p
    two (suc zero) h = q
    two (suc (suc m)) h = absurd (not-suc-le-zero (le_of_suc-le-suc (le_of_suc-le-suc h)))

bits_assoc : (a b c : ℕ) → differ (bit_xor (a % 2) (b % 2)) (c % 2) ≡ differ (a % 2) (bit_xor (b % 2) (c % 2))
bits_assoc a b c =
    mod2 (λ x. differ (bit_xor x (b % 2)) (c % 2) ≡ differ x (bit_xor (b % 2) (c % 2)))
    (mod2 (λ y. differ (bit_xor 0 y) (c % 2) ≡ differ 0 (bit_xor y (c % 2)))
    refl
    (mod2 (λ z. differ (bit_xor 0 1) z ≡ differ 0 (bit_xor 1 z)) refl refl c) b)
    (mod2 (λ y. differ (bit_xor 1 y) (c % 2) ≡ differ 1 (bit_xor y (c % 2)))
    (mod2 (λ z. differ (bit_xor 1 0) z ≡ differ 1 (bit_xor 0 z)) refl refl c)
    (mod2 (λ z. differ (bit_xor 1 1) z ≡ differ 1 (bit_xor 1 z)) refl refl c) b) a

pub xor_assoc : (a b c : ℕ) → bit_xor (bit_xor a b) c ≡ bit_xor a (bit_xor b c)
xor_assoc =
    bin_ind (λ (n : ℕ). (b c : ℕ) → bit_xor (bit_xor n b) c ≡ bit_xor n (bit_xor b c)) (λ b c. refl)
    (λ n ih b c. xor_step (bit_xor n b) c
    ∙ ap₂ (λ (x y : ℕ). x * 2 + y)
    (ap (λ (x : ℕ). bit_xor x (c / 2)) (xor_shr n b 1) ∙ ih (b / 2) (c / 2) ∙ ap (bit_xor (n / 2)) (sym (xor_shr b c 1)))
    (ap (λ (x : ℕ). differ x (c % 2)) (xor_mod n b 1) ∙ bits_assoc n b c ∙ ap (differ (n % 2)) (sym (xor_mod b c 1)))
    ∙ sym (xor_step n (bit_xor b c)))

pub xor_four : (a b c d : ℕ) → bit_xor (bit_xor a b) (bit_xor c d) ≡ bit_xor (bit_xor a c) (bit_xor b d)
xor_four a b c d =
    xor_assoc a b (bit_xor c d)
    ∙ ap (bit_xor a) (sym (xor_assoc b c d) ∙ ap (λ (x : ℕ). bit_xor x d) (xor_comm b c) ∙ xor_assoc c b d)
    ∙ sym (xor_assoc a c (bit_xor b d))

pub xor_back : (a b : ℕ) → bit_xor (bit_xor a b) b ≡ a
xor_back a b = xor_assoc a b b ∙ ap (bit_xor a) (xor_self b) ∙ xor_zero_r a

-- a difference of 0
pub xor_zero : (a b : ℕ) → bit_xor a b ≡ 0 → a ≡ b
xor_zero a b e = sym (xor_back a b) ∙ ap (λ (x : ℕ). bit_xor x b) e

-- both shifted by k bits
pub xor_shift : (k a b : ℕ) → bit_xor (a * 2 ^ k) (b * 2 ^ k) ≡ bit_xor a b * 2 ^ k
xor_shift k a b =
    ap₂ bit_xor (sym (add-zero (a * 2 ^ k))) (sym (add-zero (b * 2 ^ k))) ∙ xor_block k a b 0 0 (pow_pos k) (pow_pos k) ∙ add-zero (bit_xor a b * 2 ^ k)
