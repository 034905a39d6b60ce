-- What a right group is: its word agrees in all 16 bits. A group that is made of data and their word is right. Assumes nothing.
use mathlib.Core.Path.{◌≡◌, sym, ap, ap₂, ◌∙◌}
use mathlib.Core.Bool.{true}
use mathlib.Core.List.{List, [], ◌∷◌, ◌++◌}
use Prim.Native.Nat.{ℕ, ◌+◌, ◌-◌, ◌*◌, ◌/◌, ◌%◌, ◌<◌}
use native.Mathlib.Nat.{div-add-mod'}
use native.Mathlib.Omega.{arith}
use borrow.Author.Tests.{eqb-true, eq-eqb}
use lib.Bits.{bit_xor, bit_or, or_shifted, xor_self}
use lib.ListN.{length, get_or, take, length-append}
use lib.Seq.{take_at, get_or_at, get_or-append-add}
use Rattle.lent.specs.Bytes.{Bytes}
use Rattle.lent.proofs.Bytes.{bytes_append}
use Rattle.pec.specs.Register.{pec_of}
use Rattle.pec.specs.Group.{two_bytes, with_pec, body, sent, off_by, right}
use Rattle.pec.proofs.Byte.{pec_lt}
use Rattle.pec.proofs.Xor.{xor_zero}

-- right, exactly if the word sent is the word worked out
pub right_agrees : (g : List ℕ) → right g ≡ true → sent g ≡ pec_of (body g)
unfolding right off_by
right_agrees g e = xor_zero (sent g) (pec_of (body g)) (eqb-true (off_by g) 0 e)

pub agrees_right : (g : List ℕ) → sent g ≡ pec_of (body g) → right g ≡ true
unfolding right off_by
agrees_right g e = eq-eqb (off_by g) 0 (ap (λ (x : ℕ). bit_xor x (pec_of (body g))) e ∙ xor_self (pec_of (body g)))

-- a right group's last bit is 0
pub closing_zero : (g : List ℕ) → right g ≡ true → get_or g (length g - 1) 0 % 2 ≡ 0
unfolding sent pec_of
closing_zero g e = omega (arith, right_agrees g e)

-- data with their word
pub length_with_pec : (d : List ℕ) → length (with_pec d) ≡ length d + 2
unfolding with_pec two_bytes
length_with_pec d = length-append d (two_bytes (pec_of d))

pub bytes_two : (w : ℕ) → w < 65536 → Bytes (two_bytes w)
unfolding two_bytes
bytes_two w h = (omega arith, (omega arith, tt))

pub bytes_with_pec : (d : List ℕ) → Bytes d → Bytes (with_pec d)
unfolding with_pec
bytes_with_pec d h = bytes_append d (two_bytes (pec_of d)) h (bytes_two (pec_of d) (pec_lt d))

pub take_with_pec : (d : List ℕ) (n : ℕ) → length d ≡ n → take n (with_pec d) ≡ d
unfolding with_pec
take_with_pec d n e = take_at d (two_bytes (pec_of d)) n e

pub right_made : (d : List ℕ) → right (with_pec d) ≡ true
unfolding with_pec two_bytes sent body
right_made d =
    agrees_right (with_pec d)
    (ap₂ (λ (x y : ℕ). x * 256 + y)
    (get_or_at d (pec_of d / 256) (pec_of d % 256 ∷ []) 0 (length (d ++ w) - 2) (sym two_less))
    (ap (λ (n : ℕ). get_or (d ++ w) n 0) one_less ∙ get_or-append-add d w 1 0)
    ∙ div-add-mod' (pec_of d) 256
    ∙ ap pec_of (sym (take_at d w (length (d ++ w) - 2) (sym two_less))))
  where
    w : List ℕ
    w = pec_of d / 256 ∷ pec_of d % 256 ∷ []

    two_less : length (d ++ w) - 2 ≡ length d
    two_less = let e = length-append d w in omega arith

    one_less : length (d ++ w) - 1 ≡ length d + 1
    one_less = let e = length-append d w in omega arith

-- the difference of a group of n bytes and their word, as the code works it out
pub off_law : (g : List ℕ) (n p : ℕ) → length g ≡ n + 2 → get_or g n 0 < 256 → get_or g (n + 1) 0 < 256 → p ≡ pec_of (take n g)
    → bit_xor (bit_or (get_or g n 0 * 256 % 65536) (get_or g (n + 1) 0)) p ≡ off_by g
unfolding off_by sent body
off_law g n p l hi lo e =
    ap₂ bit_xor
    (ap (λ (x : ℕ). bit_or x (get_or g (n + 1) 0)) (whole (get_or g n 0) hi)
    ∙ or_shifted (get_or g n 0) 8 (get_or g (n + 1) 0) lo
    ∙ ap₂ (λ (i j : ℕ). get_or g i 0 * 256 + get_or g j 0) two_less one_less)
    (e ∙ ap (λ (i : ℕ). pec_of (take i g)) two_less)
  where
    whole : (x : ℕ) → x < 256 → x * 256 % 65536 ≡ x * 256
    whole x b = omega arith

    two_less : n ≡ length g - 2
    two_less = omega arith

    one_less : n + 1 ≡ length g - 1
    one_less = omega arith
