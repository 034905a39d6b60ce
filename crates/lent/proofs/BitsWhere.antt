-- Laws of a word of bits: each bit by its own test, and a word is its bits. Assumes nothing.
use mathlib.Core.Path.{◌≡◌, refl, sym, ap, ap₂, ◌∙◌, subst}
use mathlib.Core.Bool.{Bool, true, false}
use mathlib.Core.Logic.{⊎_elim}
use Prim.Native.Nat.{ℕ, zero, suc, ◌+◌, ◌-◌, ◌*◌, ◌/◌, ◌%◌, ◌^◌, ◌≤◌, ◌<◌}
use native.Mathlib.Nat.{pow-suc, add-mul-mod_self_right, add-zero, le_of_suc-le-suc, eq-or-lt_of_le, lt_of_lt_of_le}
use native.Mathlib.Numerals.{add-one}
use native.Mathlib.Omega.{arith}
use lib.Pow.{pow_pos, pow_mono, pow-add, high, field, shr-shr}
use Rattle.lent.specs.Refusal.{pick}
use Rattle.lent.specs.Word.{bits_where}
use Rattle.lent.proofs.Pick.{pick_true, pick_false}

pick_most : (b : Bool) (x : ℕ) → pick b x 0 ≤ x
unfolding pick
pick_most true x = omega arith
pick_most false x = omega arith

-- what one test adds to the word is at most its bit
pub bit_or_none : (b : Bool) (bit r : ℕ) → r ≡ pick b bit 0 → r ≤ bit
bit_or_none b bit r e = omega (arith, pick_most b bit)

-- bit k of a number is not changed by a higher one
bit_high : (x k j : ℕ) → k < j → (x + 2 ^ j) / 2 ^ k % 2 ≡ x / 2 ^ k % 2
bit_high x k j h =
    let e : 2 ^ j ≡ 2 ^ (j - (1 + k)) * 2 ^ (1 + k) = ap (λ (i : ℕ). 2 ^ i) (omega arith) ∙ pow-add 2 (j - (1 + k)) (1 + k) in
    sym (field (x + 2 ^ j) 1 k)
    ∙ ap (λ (i : ℕ). i / 2 ^ k) (ap (λ (i : ℕ). (x + i) % 2 ^ (1 + k)) e ∙ add-mul-mod_self_right x (2 ^ (j - (1 + k))) (2 ^ (1 + k)))
    ∙ field x 1 k

-- bit j of a number below 2^j, with 2^j added, and without
bit_here : (x j : ℕ) (b : Bool) → x < 2 ^ j → (x + pick b (2 ^ j) 0) / 2 ^ j % 2 ≡ pick b 1 0
unfolding pick
bit_here x j true h = ap (λ (i : ℕ). i % 2) (ap (λ (i : ℕ). i / 2 ^ j) (omega arith) ∙ high 1 j h)
bit_here x j false h = ap (λ (i : ℕ). i % 2) (ap (λ (i : ℕ). i / 2 ^ j) (omega arith) ∙ high 0 j h)

pub bit_zero : (k : ℕ) → 0 / 2 ^ k % 2 ≡ 0
unfolding pick
bit_zero k = bit_here 0 k false (pow_pos k)

module _ (test : ℕ → Bool) where
  -- no bit from n up
  pub bits_below : (n : ℕ) → bits_where test n < 2 ^ n
  unfolding bits_where
  bits_below zero = omega (arith, pow_pos 0)
  bits_below (suc n) = omega (arith, bits_below n, pick_most (test n) (2 ^ n), pow-suc 2 n)

  -- each bit by its own test
  pub bits_at : (n k : ℕ) → k < n → bits_where test n / 2 ^ k % 2 ≡ pick (test k) 1 0
  unfolding bits_where
  bits_at zero k h = absurd (omega arith)
  bits_at (suc n) k h =
      ⊎_elim
      (λ e. subst (λ (i : ℕ). bits_where test (suc n) / 2 ^ i % 2 ≡ pick (test i) 1 0) (sym e) (bit_here (bits_where test n) n (test n) (bits_below n)))
      (λ l. before (test n) l ∙ bits_at n k l)
      (eq-or-lt_of_le (le_of_suc-le-suc h))
    where
      before : (b : Bool) → k < n → (bits_where test n + pick b (2 ^ n) 0) / 2 ^ k % 2 ≡ bits_where test n / 2 ^ k % 2
      before true l = unfold pick in bit_high (bits_where test n) k n l
      before false l = unfold pick in ap (λ (i : ℕ). i / 2 ^ k % 2) (add-zero (bits_where test n))

  -- every bit
  pub bits_all : (n : ℕ) → ((k : ℕ) → k < n → test k ≡ true) → bits_where test n ≡ 2 ^ n - 1
  unfolding bits_where
  bits_all zero h = refl
  bits_all (suc n) h =
      ap₂ (λ (x y : ℕ). x + y) (bits_all n (λ k l. h k (omega arith))) (pick_true (test n) (2 ^ n) 0 (h n (omega arith))) ∙ omega (arith, pow-suc 2 n, pow_pos n)

  -- ONE TEST MORE, as a loop over the tests takes it: what it adds to the word, and that the word still fits
  module _ (k word : ℕ) (v : word ≡ bits_where test k) where
    pub bit_more : (r : ℕ) → r ≡ pick (test k) (2 ^ k) 0 → word + r ≡ bits_where test (k + 1)
    unfolding bits_where
    bit_more r e = rw (add-one, v, e)

    pub bit_set : (bit : ℕ) → bit ≡ 2 ^ k → test k ≡ true → word + bit ≡ bits_where test (k + 1)
    bit_set bit e t = bit_more bit (e ∙ sym (pick_true (test k) (2 ^ k) 0 t))

    pub bit_clear : test k ≡ false → word ≡ bits_where test (k + 1)
    bit_clear f = sym (add-zero word) ∙ bit_more 0 (sym (pick_false (test k) (2 ^ k) 0 f))

    pub bit_fits : (n bit : ℕ) → k < n → bit ≡ 2 ^ k → test k ≡ true → word + bit < 2 ^ n
    bit_fits n bit h e t = rw (bit_set bit e t) (lt_of_lt_of_le (bits_below (k + 1)) (pow_mono {i = k + 1} {j = n} (omega arith)))

-- two words of n bits that agree at each bit are equal
pub bits_ext : (n x y : ℕ) → x < 2 ^ n → y < 2 ^ n → ((k : ℕ) → k < n → x / 2 ^ k % 2 ≡ y / 2 ^ k % 2) → x ≡ y
bits_ext zero x y lx ly e = omega arith
bits_ext (suc n) x y lx ly e =
    let p = pow-suc 2 n in
    let lowest : x / 2 ^ 0 % 2 ≡ y / 2 ^ 0 % 2 = e 0 (omega arith) in
    let others : x / 2 ≡ y / 2 =
    bits_ext n (x / 2) (y / 2) (omega arith) (omega arith)
    (λ k h. let q : 1 + k ≡ suc k = omega arith in
    ap (λ (i : ℕ). i % 2) (shr-shr x 1 k ∙ ap (λ (i : ℕ). x / 2 ^ i) q) ∙ e (suc k) (omega arith)
    ∙ sym (ap (λ (i : ℕ). i % 2) (shr-shr y 1 k ∙ ap (λ (i : ℕ). y / 2 ^ i) q))) in
    omega arith
