-- A byte into the register by the table's rule is its eight bits, one by one; so the loop over the table gives the bit-by-bit word. Assumes nothing.
use mathlib.Core.Path.{◌≡◌, refl, sym, ap, ap₂, ◌∙◌}
use mathlib.Core.Bool.{Bool}
use mathlib.Core.List.{List, [], ◌∷◌, ◌++◌, append_assoc}
use Prim.Native.Nat.{ℕ, ◌+◌, ◌*◌, ◌/◌, ◌%◌, ◌<◌, ◌≤◌}
use native.Mathlib.Nat.{mod-lt}
use native.Mathlib.Numerals.{add-one}
use native.Mathlib.Omega.{arith}
use borrow.Author.Tests.{eqb-true}
use lib.Bits.{bit_xor, bit_and, and_mask, xor_shifted, xor_comm, xor_zero_r, xor_lt}
use lib.Dec.{eqb, lit<}
use lib.ListN.{length, get_or, take, set, length-set}
use lib.Pow.{split}
use lib.Seq.{take-suc, take_all, get_or-set_same, get_or-set_other}
use Rattle.lent.proofs.Tests.{each_below}
use Rattle.pec.specs.Register.{step, feed, bits8, bits, remainder_of, pec_of}
use Rattle.pec.specs.Polynomial.{times_x, entry_of}
use Rattle.pec.proofs.Xor.{xor_back, xor_shift}
use Rattle.pec.proofs.Linear.{feed_xor, feed_append, feed_lt}

abbrev zeros8 : List ℕ
zeros8 = 0 ∷ 0 ∷ 0 ∷ 0 ∷ 0 ∷ 0 ∷ 0 ∷ 0 ∷ []

-- Three tests over all numbers of 7 or 8 bits: the 7 low bits of a register only shift; a byte against itself at the top leaves 0; and the 8 high
-- bits, with nothing coming in, leave the table's entry.
low_test : ℕ → Bool
low_test m = eqb (feed m zeros8) (m * 256)

own_test : ℕ → Bool
own_test x = eqb (feed (x * 128) (bits8 x)) 0

high_test : ℕ → Bool
high_test h = eqb (feed (h * 128) zeros8) (entry_of h)

low8 : (m : ℕ) → m < 128 → feed m zeros8 ≡ m * 256
unfolding low_test step
low8 m h = eqb-true (feed m zeros8) (m * 256) (each_below low_test 128 refl m h)

own8 : (x : ℕ) → x < 256 → feed (x * 128) (bits8 x) ≡ 0
unfolding own_test step
own8 x h = eqb-true (feed (x * 128) (bits8 x)) 0 (each_below own_test 256 refl x h)

high8 : (x : ℕ) → x < 256 → feed (x * 128) zeros8 ≡ entry_of x
unfolding high_test step entry_of times_x
high8 x h = eqb-true (feed (x * 128) zeros8) (entry_of x) (each_below high_test 256 refl x h)

-- a byte against the 8 high bits
high_byte : (h x : ℕ) → h < 256 → x < 256 → feed (h * 128) (bits8 x) ≡ entry_of (bit_xor h x)
high_byte h x hh hx =
    ap (λ (n : ℕ). feed (n * 128) (bits8 x)) (sym (xor_back h x))
    ∙ ap (λ (n : ℕ). feed n (bits8 x)) (sym (xor_shift 7 (bit_xor h x) x))
    ∙ feed_xor zeros8 (bits8 x) (bit_xor h x * 128) (x * 128) refl
    ∙ ap₂ bit_xor (high8 (bit_xor h x) (xor_lt 8 h x hh hx)) (own8 x hx)
    ∙ xor_zero_r (entry_of (bit_xor h x))

pub byte_step : (r x : ℕ) → r < 32768 → x < 256 → feed r (bits8 x) ≡ bit_xor (r * 256 % 32768) (entry_of (bit_xor (r / 128) x))
byte_step r x hr hx =
    ap (λ (n : ℕ). feed n (bits8 x)) (sym (xor_comm (r % 128) (r / 128 * 128) ∙ xor_shifted (r / 128) 7 (r % 128) (mod-lt r (lit< tt)) ∙ split r 7))
    ∙ feed_xor zeros8 (bits8 x) (r % 128) (r / 128 * 128) refl
    ∙ ap₂ bit_xor (low8 (r % 128) (mod-lt r (lit< tt)) ∙ shifted r) (high_byte (r / 128) x (omega arith) hx)
  where
    shifted : (n : ℕ) → n % 128 * 256 ≡ n * 256 % 32768
    shifted n = omega arith

pub bits_append : (xs ys : List ℕ) → bits (xs ++ ys) ≡ bits xs ++ bits ys
bits_append [] ys = refl
bits_append (x ∷ xs) ys = ap (λ (l : List ℕ). bits8 x ++ l) (bits_append xs ys) ∙ sym (append_assoc (bits8 x) (bits xs) (bits ys))

pub remainder_lt : (xs : List ℕ) → remainder_of xs < 32768
unfolding remainder_of
remainder_lt xs = feed_lt (bits xs) 16 (lit< tt)

pub pec_lt : (xs : List ℕ) → pec_of xs < 65536
unfolding pec_of
pec_lt xs = omega (arith, remainder_lt xs)

remainder_snoc : (xs : List ℕ) (x : ℕ) → remainder_of (xs ++ x ∷ []) ≡ feed (remainder_of xs) (bits8 x)
unfolding remainder_of
remainder_snoc xs x = ap (feed 16) (bits_append xs (x ∷ [])) ∙ feed_append (bits xs) (bits8 x) 16

-- One byte, as the code has it: the register's high bits are a byte, and so is the index into the table; and what the register is then.
pub index_lt : (r x : ℕ) → r < 32768 → x < 256 → bit_xor (r / 128) x < 256
index_lt r x h b = xor_lt 8 (r / 128) x (omega arith) b

pub turned : (r x e : ℕ) → r < 32768 → x < 256 → e ≡ entry_of (bit_xor (r / 128) x)
    → (bit_xor (bit_and (r * 256 % 65536) 32767) e ≡ feed r (bits8 x)) × (bit_xor (bit_and (r * 256 % 65536) 32767) e < 32768)
turned r x e hr hx he =
    let same : bit_xor (bit_and (r * 256 % 65536) 32767) e ≡ feed r (bits8 x) = ap₂ bit_xor (masked r) he ∙ sym (byte_step r x hr hx) in
    (same, rw same (feed_lt (bits8 x) r hr))
  where
    masked : (n : ℕ) → bit_and (n * 256 % 65536) 32767 ≡ n * 256 % 32768
    masked n = and_mask (n * 256 % 65536) 15 ∙ omega arith

-- Byte by byte: the register is the remainder of the bytes passed, then of one byte more; and the end.
pub next : (l : List ℕ) (i r s : ℕ) → i < length l → r ≡ remainder_of (take i l) → s ≡ feed r (bits8 (get_or l i 0)) → s ≡ remainder_of (take (i + 1) l)
next l i r s hi hr hs =
    hs
    ∙ ap (λ (n : ℕ). feed n (bits8 (get_or l i 0))) hr
    ∙ sym (remainder_snoc (take i l) (get_or l i 0))
    ∙ ap remainder_of (sym (take-suc l i 0 hi) ∙ ap (λ (n : ℕ). take n l) (sym (add-one i)))

-- the same of bytes of which the first is another: the first, and a later one
pub next_first : (l : List ℕ) (b s : ℕ) → 0 < length l → s ≡ feed 16 (bits8 b) → s ≡ remainder_of (take 1 (set l 0 b))
unfolding remainder_of
next_first l b s h e =
    next (set l 0 b) 0 16 s (omega (arith, length-set l 0 b)) refl (e ∙ ap (λ (x : ℕ). feed 16 (bits8 x)) (sym (get_or-set_same l 0 b 0 h)))

pub next_later : (l : List ℕ) (b i r s : ℕ) → 0 < i → i < length l → r ≡ remainder_of (take i (set l 0 b)) → s ≡ feed r (bits8 (get_or l i 0))
    → s ≡ remainder_of (take (i + 1) (set l 0 b))
next_later l b i r s p h er es =
    next (set l 0 b) i r s (omega (arith, length-set l 0 b)) er
    (es ∙ ap (λ (x : ℕ). feed r (bits8 x)) (sym (get_or-set_other l 0 i b 0 (λ e. omega arith))))

pub done : (l : List ℕ) (i r : ℕ) → r ≡ remainder_of (take i l) → length l ≤ i → r * 2 % 65536 ≡ pec_of l
unfolding pec_of
done l i r e h =
    let whole : r ≡ remainder_of l = e ∙ ap remainder_of (take_all i l h) in
    let lt = remainder_lt l in
    omega arith
